use Rattle.std.proofs.Common.{ap, ◌∙◌}
use Rattle.np_exposure.proofs.SameLemmas.{is_same-tells}
use Rattle.np_exposure.specs.Prelude.{SidedRequirement, is_same}
use Rattle.np_exposure.proofs.open_row.LentSame.is_same.Goals as goal

pub returns : goal.returns
returns c =
    is_same-tells c.args.self.now c.args.other.now c.is_same.result
    (c.is_same.ensures ∙ ap (λ (a : SidedRequirement). is_same a c.other.inside.requirement.now) c.self.view_is ∙ ap (is_same c.args.self.now) c.other.view_is)
