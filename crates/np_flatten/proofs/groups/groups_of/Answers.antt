use Rattle.std.proofs.Common.{ap, arith, ◌∙◌, length}
use Rattle.std.proofs.lemmas.Result.{IfOk-weaker}
use Rattle.np_flatten.proofs.GroupLemmas.{classes-firsts, classes-numbers, seen-count}
use Rattle.np_flatten.proofs.groups.groups_of.Goals as goal

pub of-requires : goal.of-requires
of-requires c = omega (arith, ap length c.in_ok-seen.ensures.seen ∙ seen-count c.args.folded.now, c.in_ok-seen.ensures.few)

pub returns-clause-firsts : goal.returns-clause-firsts
returns-clause-firsts c = IfOk-weaker c.of.result _ _ (λ made is. is ∙ classes-firsts c.args.folded.now c.in_ok-seen.seen.items c.in_ok-seen.ensures.seen) c.of.ensures.firsts

pub returns-clause-numbers : goal.returns-clause-numbers
returns-clause-numbers c = IfOk-weaker c.of.result _ _ (λ made is. is ∙ classes-numbers c.args.folded.now c.in_ok-seen.seen.items c.in_ok-seen.ensures.seen) c.of.ensures.numbers
