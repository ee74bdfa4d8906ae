use Rattle.np_rules.specs.Prelude.{contact_view, pod_view}
use Rattle.np_rules.proofs.AdminTierLemmas.{action-next, action-all}
use Rattle.np_rules.proofs.admin_tier.admin_action.Goals as goal

pub loop-policy-preserved : goal.loop-policy-preserved
loop-policy-preserved c = action-next c.args.policies.now c.args.direction (pod_view c.args.pod.now) (contact_view c.args.contact.now) c.loop-policy.policy-index c.policy-item.result _ _ _
    c.loop-policy-test.true c.policy-item.is c.loop-policy.invariant c.action_by-here.ensures c.or-decided.ensures

pub returns : goal.returns
returns c = action-all c.args.policies.now c.args.direction (pod_view c.args.pod.now)
    (contact_view c.args.contact.now) c.loop-policy.policy-index _ c.requires c.loop-policy.auto.policy-index-end c.loop-policy-test.false c.loop-policy.invariant
