use Rattle.std.proofs.Common.{take}
use Rattle.std.specs.List.{filter}
use Rattle.np_rules.specs.Prelude.{IsPolicyAt, Pairwise, admin_rules_of, pod_view, subject_selects}
use Rattle.np_rules.proofs.policy_rules.selecting_policies.Given as goal

-- those so far are the selecting ones of the policies so far
abbrev pub invariant-loop-place : goal.invariant-loop-place
invariant-loop-place l = Pairwise (IsPolicyAt l.policies (admin_rules_of l.direction)) l.selecting.items (filter (λ policy. subject_selects policy.subject (pod_view l.pod)) (take l.place l.policies))
