use Rattle.std.proofs.Common.{ap, ◌∙◌}
use Rattle.std.specs.List.{list_any}
use Rattle.std.proofs.lemmas.Result.{IfOk-weaker}
use Rattle.np_conns.specs.Prelude.{has_spot}
use Rattle.np_exposure.proofs.SettledLemmas.{all-rules}
use Rattle.np_exposure.proofs.open_rules.OpenRules.permitted.Goals as goal

pub returns : goal.returns
returns c =
    IfOk-weaker c.joined_set.result _ _
    (λ made is spot. all-rules c.args.namespace.now c.args.stranger.now spot c.args.self.now c.deref-rule-items.result.now c.loop-rule.rule-index (has_spot made spot)
    c.deref-rule-items.ensures.value c.loop-rule-test.false
    (is spot ∙ ap (list_any (λ set. has_spot set.now spot)) c.deref.ensures.value ∙ c.loop-rule.invariant spot))
    c.joined_set.ensures
