use Rattle.std.proofs.Common.{◌≡◌, map, take}
use Rattle.np_table.proofs.all_rows.with_keys.Given as goal
use Rattle.np_table.specs.Prelude.{row_of}

-- the rows made so far are those of the rows that were gone through
abbrev pub invariant-loop-row : goal.invariant-loop-row
invariant-loop-row l = l.made ≡ map (row_of l.workload l.direction) (take l.row-index l.rows)
