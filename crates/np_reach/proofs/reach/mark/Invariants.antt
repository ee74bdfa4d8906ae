use Rattle.std.proofs.Common.{◌≡◌, ℕ, ◌||◌, length, take}
use Rattle.np_reach.proofs.SpokenLemmas.{from_on}
use Rattle.np_reach.proofs.reach.mark.Given as goal
use Rattle.np_reach.specs.Prelude.{has_place, marks_at}

-- the marks so far are in the row
abbrev pub invariant-loop-number : goal.invariant-loop-number
invariant-loop-number l = record {
  length : length l.row ≡ length l.initial.row;
  marked : (place : ℕ) → has_place l.row place ≡ (has_place l.initial.row place || marks_at (from_on l.marks.from (take l.number l.marks.pods)) place);
}
