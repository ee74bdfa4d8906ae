use Rattle.std.proofs.Common.{◌≡◌, map, take}
use Rattle.np_rules.proofs.rule_ids.places_of.Given as goal

-- the places of the policies so far
abbrev pub invariant-loop-policy : goal.invariant-loop-policy
invariant-loop-policy g l = l.places.items ≡ map (λ policy. policy.place) (take l.policy-index l.policies)
