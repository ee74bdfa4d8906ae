use Rattle.std.proofs.Common.{take}
use Rattle.std.specs.List.{filter}
use Rattle.np_rules.specs.Prelude.{IsPolicyAt, Pairwise, isolates, net_rules_in, pod_view}
use Rattle.np_rules.proofs.policy_rules.isolating_policies.Given as goal

-- those so far are the isolating ones of the namespace's policies so far
abbrev pub invariant-loop-among : goal.invariant-loop-among
invariant-loop-among l = Pairwise (IsPolicyAt l.policies (net_rules_in l.direction)) l.isolating.items (filter (isolates l.direction (pod_view l.pod)) (take l.among l.own.policies.now))
