use Rattle.std.proofs.Common.{◌≡◌, take}
use Rattle.np_flatten.proofs.unlike.first_unlike.Given as goal
use Rattle.np_flatten.specs.Prelude.{IsLeastUnlike}

-- what was found is the least among the workloads so far
abbrev pub invariant-loop-workload : goal.invariant-loop-workload
invariant-loop-workload l = record {
  same : l.passing ≡ l.fn.passing;
  least : IsLeastUnlike l.fn.passing (take l.workload-index l.workload-items) l.found;
}
