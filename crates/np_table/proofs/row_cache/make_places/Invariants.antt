use Rattle.std.proofs.Common.{◌≤◌, ◌-◌, length}
use Rattle.np_table.proofs.row_cache.make_places.Given as goal
use Rattle.np_table.specs.Prelude.{CachesTheSame}

-- the same is kept
abbrev pub invariant-loop-by_kind : goal.invariant-loop-by_kind
invariant-loop-by_kind l = record {
  few : length l.by_kind.items ≤ l.kinds;
  same : CachesTheSame l.fn.by_kind.items l.by_kind.items;
}

abbrev pub decreases-loop-by_kind : goal.decreases-loop-by_kind
decreases-loop-by_kind l = l.kinds - length l.by_kind.items
