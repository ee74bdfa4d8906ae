use Rattle.std.proofs.Common.{◌≡◌, ◌+◌, length, take}
use Rattle.std.specs.List.{flat_map}
use Rattle.np_rules.proofs.policy_rules.count_rules.Given as goal

-- the rules of the policies so far are counted
abbrev pub invariant-loop-policy : goal.invariant-loop-policy
invariant-loop-policy g l = l.steps ≡ l.initial.steps + length (flat_map (λ policy. policy.rules.now) (take l.policy-index l.policies))
