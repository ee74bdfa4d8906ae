use Rattle.std.proofs.Common.{◌≡◌, take}
use Rattle.np_rules.specs.Prelude.{contact_view, permits, pod_view}
use Rattle.np_rules.proofs.net_tier.permits.Given as goal

-- whether some rule of the policies so far matches
abbrev pub invariant-loop-policy : goal.invariant-loop-policy
invariant-loop-policy l = l.permitted ≡ permits (take l.policy-index l.policies) l.direction (pod_view l.pod) (contact_view l.contact)
