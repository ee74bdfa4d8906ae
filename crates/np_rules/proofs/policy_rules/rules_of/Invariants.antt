use Rattle.std.proofs.Common.{◌≡◌, map, take}
use Rattle.std.specs.List.{flat_map}
use Rattle.np_rules.proofs.policy_rules.rules_of.Given as goal

-- the rules of the policies so far
abbrev pub invariant-loop-policy : goal.invariant-loop-policy
invariant-loop-policy g l = map (λ rule. rule.now) l.rules.items ≡ flat_map (λ policy. policy.rules.now) (take l.policy-index l.policies)
