use Rattle.std.proofs.Common.{sym, ◌∙◌}
use Rattle.np_check.proofs.SpotLemmas.{first_of_none, first_of_some}
use Rattle.np_check.proofs.claim.first_of_proto.Goals as goal

pub returns-in_err-first : goal.returns-in_err-first
returns-in_err-first c =
    c.from_residual.ensures ∙ first_of_none c.args.set.now c.args.proto c.spans.result.now c.spans.ensures.kept c.spans.ensures.ascending (sym c.in_err-first.ensures.value)

pub returns : goal.returns
returns c = first_of_some c.args.set.now c.args.proto c.spans.result.now c.in_ok-first.first.now c.spans.ensures.kept c.spans.ensures.ascending (sym c.in_ok-first.ensures.value)
