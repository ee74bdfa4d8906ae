use Rattle.std.proofs.Common.{◌≡◌, map}
use Rattle.np_classes.specs.Classes.{places}
use Rattle.np_flatten.proofs.groups.seen_of_workloads.Given as goal
use Rattle.np_flatten.specs.Prelude.{seen_at}

-- what is seen of the workloads so far
abbrev pub invariant-loop-workload : goal.invariant-loop-workload
invariant-loop-workload l = l.made.items ≡ map (seen_at l.folded) (places l.workload)
