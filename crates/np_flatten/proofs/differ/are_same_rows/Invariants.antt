use Rattle.std.proofs.Common.{◌≡◌, ◌≤◌, drop, length}
use Rattle.std.specs.Cmp.Lexicographic.{pointwise}
use Rattle.np_flatten.proofs.differ.are_same_rows.Given as goal
use Rattle.np_flatten.specs.Prelude.{are_same_address_row}

-- the rows so far are the same, so that the others tell
abbrev pub invariant-loop-place : goal.invariant-loop-place
invariant-loop-place l = (l.place ≤ length l.others) × (pointwise are_same_address_row l.rows l.others ≡ pointwise are_same_address_row (drop l.place l.rows) (drop l.place l.others))
