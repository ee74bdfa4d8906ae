use Rattle.std.proofs.Common.{◌≡◌, map}
use Rattle.std.specs.List.{zip}
use Rattle.np_fold.specs.steps.Folded as folded
use Rattle.np_fold.specs.Workloads as spec
use Rattle.np_fold.proofs.members.members_by_name.Given as goal

-- the workloads so far are those of the groups so far
abbrev pub invariant-loop-members : goal.invariant-loop-members
invariant-loop-members l = map spec.workload_of_entry l.by_name.entries ≡ map folded.workload_of_pair (zip l.named l.yielded)
