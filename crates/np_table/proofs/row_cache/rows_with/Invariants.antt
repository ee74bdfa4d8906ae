use Rattle.std.proofs.Common.{◌≡◌, map, take}
use Rattle.np_table.proofs.row_cache.rows_with.Given as goal
use Rattle.np_table.specs.Prelude.{row_with}

-- the rows of those so far
abbrev pub invariant-loop-one : goal.invariant-loop-one
invariant-loop-one l = l.rows ≡ map (row_with l.key) (take l.one-index l.conns)
