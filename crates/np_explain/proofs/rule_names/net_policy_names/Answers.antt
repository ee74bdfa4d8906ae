use Rattle.np_explain.proofs.SideLemmas.{names_more}
use Rattle.np_explain.proofs.rule_names.net_policy_names.Goals as goal

pub loop-place-preserved : goal.loop-place-preserved
loop-place-preserved c = names_more c.args.policies.now c.args.places.now c.loop-place.place-index c.index-policies-place.result c.loop-place.names.items _ c.in_ok-name.name c.loop-place-test.true
    (c.requires c.loop-place.place-index 0 c.loop-place-test.true) c.index-policies-place.is c.in_ok-name.ensures c.loop-place.invariant c.in_ok-push.ensures.items
