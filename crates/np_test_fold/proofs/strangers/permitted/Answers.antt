use Rattle.std.proofs.Common.{ap, ◌∙◌}
use Rattle.std.specs.List.{list_any}
use Rattle.std.proofs.lemmas.List.{take_all}
use Rattle.std.proofs.lemmas.Result.{IfOk-weaker}
use Rattle.np_conns.specs.Prelude.{has_spot}
use Rattle.np_test_fold.proofs.strangers.permitted.Goals as goal

pub returns : goal.returns
returns c =
    IfOk-weaker c.joined_set.result _ _
    (λ made is spot within. is spot ∙ ap (list_any (λ set. has_spot set.now spot)) c.deref.ensures.value ∙ rw (take_all _ _ c.loop-rule-test.false) at (c.loop-rule.invariant spot)
    ∙ c.net-rule-items.ensures c.args.stranger.now spot within)
    c.joined_set.ensures
