use Rattle.std.proofs.Common.{ap, ◌∙◌}
use Rattle.np_flatten.proofs.ReceiverFacts.{group-first-in}
use Rattle.np_flatten.proofs.flat.Flat.first.Goals as goal
use Rattle.np_flatten.specs.Prelude.{group_firsts}

pub returns-clause-within : goal.returns-clause-within
returns-clause-within c = group-first-in c.args.self.now c.items.result.now c.args.group (c.items.ensures ∙ c.self.invariant.0 ∙ ap group_firsts c.self.view_is) c.requires
