use Rattle.std.proofs.Common.{refl}
use Rattle.np_rules.specs.Prelude.{contact_view, pod_view}
use Rattle.np_rules.proofs.NetTierLemmas.{permits-next}
use Rattle.np_rules.proofs.net_tier.permits.Goals as goal

pub loop-policy-preserved : goal.loop-policy-preserved
loop-policy-preserved c = permits-next c.args.policies.now c.args.direction (pod_view c.args.pod.now) (contact_view c.args.contact.now) c.loop-policy.policy-index c.policy-item.result _ _ _
    c.loop-policy-test.true c.policy-item.is c.loop-policy.invariant c.permits_by-here.ensures refl
