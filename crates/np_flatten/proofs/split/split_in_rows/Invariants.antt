use Rattle.std.proofs.Common.{◌≡◌, length}
use Rattle.np_flatten.proofs.split.split_in_rows.Given as goal
use Rattle.np_flatten.specs.Prelude.{first_split_of}
use Rattle.np_table.specs.Prelude.{all_rows, estate_table}

-- the rows so far have no mark
abbrev pub invariant-loop-rows : goal.invariant-loop-rows
invariant-loop-rows g l = first_split_of l.rows.rows ≡ first_split_of (all_rows (estate_table l.folded))

abbrev pub decreases-loop-rows : goal.decreases-loop-rows
decreases-loop-rows g l = length l.rows.rows
