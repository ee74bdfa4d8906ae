use Rattle.std.proofs.Common.{◌≡◌, map, take}
use Rattle.np_table.proofs.row_cache.conns_of_rows.Given as goal
use Rattle.np_table.specs.Prelude.{cached_of}

-- what the rows so far have
abbrev pub invariant-loop-row : goal.invariant-loop-row
invariant-loop-row l = l.made ≡ map cached_of (take l.row-index l.rows)
