use Rattle.std.proofs.Common.{◌≡◌, ℕ, ◌||◌, length, take}
use Rattle.np_reach.proofs.reach.mark_all.Given as goal
use Rattle.np_reach.specs.Prelude.{has_place, speaks_at}

-- the marks of the stretches so far are in the row
abbrev pub invariant-loop-marks : goal.invariant-loop-marks
invariant-loop-marks l = record {
  length : length l.row ≡ length l.initial.row;
  marked : (place : ℕ) → has_place l.row place ≡ (has_place l.initial.row place || speaks_at (take l.marks-index l.far) place);
}
