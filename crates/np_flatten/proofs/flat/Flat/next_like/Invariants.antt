use Rattle.std.proofs.Common.{◌≡◌, ◌<◌, ℕ, false, ◌==◌}
use Rattle.np_flatten.proofs.flat.Flat.next_like.Given as goal
use Rattle.np_flatten.specs.Prelude.{group_of}

-- none of the workloads so far is of the group
abbrev pub invariant-loop-other : goal.invariant-loop-other
invariant-loop-other l = (k : ℕ) → l.workload < k → k < l.other → (group_of l.self k == l.group) ≡ false
