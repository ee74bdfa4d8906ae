-- What is kept of the rows from one source: for each kind of destinations what they have besides their ends.
use Rattle.std.specs.Prelude.{ℕ, ◌≡◌, ◌≢◌, ◌<◌, List, false, Option, Some, option_and_then, is_some, count_by, length, map, slice_get, slice_index}
use Rattle.np_table.specs.Types.{CachedConns, EstateLists, Row, RowKey}
use Rattle.np_fold.specs.Prelude.{Folding}
use Rattle.np_table.specs.Rows.{pair_key, pair_rows}
use Rattle.np_kinds.specs.Prelude.{is_alone}
use Rattle.np_table.specs.Table.{table_of}

-- ---- rows and what is kept of them

-- what a row has besides its ends
abbrev pub cached_of : Row → CachedConns
cached_of row = record { family = row.family; conns = row.conns }

-- the row of these ends that has it
abbrev pub row_with : RowKey → CachedConns → Row
row_with key one = record { key = key; family = one.family; conns = one.conns }

-- ---- kinds

-- what is kept for a kind
abbrev pub cached_at : List (Option (List CachedConns)) → ℕ → Option (List CachedConns)
cached_at kept kind = option_and_then (λ found. found) (slice_get kept kind)

-- for how many kinds something is kept
abbrev pub cached_count : List (Option (List CachedConns)) → ℕ
cached_count kept = count_by (λ found. is_some found) kept

-- for each kind is kept what was
pub record CachesTheSame (old new : List (Option (List CachedConns))) : Type 0 where
  pub all : (kind : ℕ) → cached_at new kind ≡ cached_at old kind
  pub count : cached_count new ≡ cached_count old

-- for one kind this is kept now, and for each other what was
pub record CachesAlso (old new : List (Option (List CachedConns))) (kind : ℕ) (conns : List CachedConns) : Type 0 where
  pub one : cached_at new kind ≡ Some conns
  pub others : (other : ℕ) → other ≢ kind → cached_at new other ≡ cached_at old other

-- What is kept for a kind are the rows from the source to each workload of the kind, but for their ends. A workload of
-- one pod with itself has no rows.
unfoldable pub IsCached : EstateLists → Folding → ℕ → List (Option (List CachedConns)) → Type 0
IsCached lists folding source kept =
    (destination : ℕ) (conns : List CachedConns) → source < length folding.workloads → destination < length folding.workloads → is_alone folding source destination ≡ false
    → cached_at kept (slice_index folding.kinds destination) ≡ Some conns → map (row_with (pair_key source destination)) conns ≡ pair_rows (table_of lists folding) source destination
