use Rattle.std.proofs.Common.{◌≡◌, map, take}
use Rattle.np_rules.specs.Prelude.{pod_end}
use Rattle.np_kinds.proofs.kind_reach.first_pods.Given as goal
use Rattle.np_kinds.specs.Prelude.{first_end}

-- the first pods of the workloads so far
abbrev pub invariant-loop-workload : goal.invariant-loop-workload
invariant-loop-workload l = map (λ one. pod_end one.now) l.firsts.items ≡ map (first_end l.folded) (take l.workload-index l.workload-items)
