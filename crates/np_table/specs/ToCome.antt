-- The rows of a table one after another.
use Rattle.std.specs.Prelude.{ℕ, ◌≡◌, ◌<◌, ◌≤◌, ◌^◌, ◌+◌, ◌-◌, ◌*◌, ◌/◌, ◌%◌, List, [], ◌∷◌, ◌==◌, Option, flat_map, length, map, max, nat_lt, if◌then◌else◌}
use Rattle.std.specs.List.{range_with_len}
use Rattle.np_table.specs.Types.{CachedConns, Direction, Egress, EstateLists, Ingress, Row}
use Rattle.np_fold.specs.Prelude.{Folding, folding_of}
use Rattle.np_rules.specs.Prelude.{pod_at, rule_count}
use Rattle.np_table.specs.RowCache.{IsCached, cached_count}
use Rattle.np_table.specs.Rows.{pair_rows, rows_towards}
use Rattle.np_table.specs.Table.{Table}
use Rattle.np_kinds.specs.Prelude.{number_of_workloads, source_pod}

-- what is still to come of the rows of a table, and an upper bound of the rules that are still to be looked at for them
pub record RowsToCome : Type 0 where
  pub rows : List Row
  pub due : ℕ

-- ---- steps from row to row: the pairs, by source and then by destination, and then each workload's addresses

abbrev pub pair_count : ℕ → ℕ
pair_count count = count * count

-- how many there are, with so many workloads
abbrev pub place_count : ℕ → ℕ
place_count count = pair_count count + 2 * count

abbrev pub direction_at : ℕ → Direction
direction_at place = if place % 2 == 0 then Ingress else Egress

-- the addresses at a place behind the pairs
abbrev pub address_rows_at : Table → ℕ → List Row
address_rows_at table place = rows_towards table (place / 2) (direction_at place)

abbrev pub pair_rows_at : Table → ℕ → List Row
pair_rows_at table place = pair_rows table (place / length table.names) (place % length table.names)

-- the rows at a place
unfoldable pub rows_at : Table → ℕ → List Row
rows_at table place =
    if nat_lt place (pair_count (length table.names)) then pair_rows_at table place
    else address_rows_at table (place - pair_count (length table.names))

-- the rows from a place on
unfoldable pub rows_from : Table → ℕ → List Row
rows_from table place = flat_map (rows_at table) (range_with_len place (place_count (length table.names) - place))

-- a later place is of the same source, where the first is one of the pairs, and else it is the first
pub record IsOfSameSource (count place later : ℕ) : Type 0 where
  pub up : place ≤ later
  pub pairs : place < pair_count count → (later < pair_count count) × (later / count ≡ place / count)
  pub behind : pair_count count ≤ place → later ≡ place

-- ---- rules that are still to be looked at

-- how many rules speak of the first pod of a workload
abbrev pub rules_of : EstateLists → Folding → Direction → ℕ → ℕ
rules_of lists folding direction workload = rule_count lists direction (pod_at lists (source_pod folding workload))

-- the greatest of some numbers, 0 where there is none
abbrev pub greatest : List ℕ → ℕ
greatest [] = 0
greatest (n ∷ ns) = max n (greatest ns)

-- the most rules that speak of a workload in a direction
unfoldable pub most_rules : EstateLists → Folding → ℕ
most_rules lists folding = greatest (map (λ workload. max (rules_of lists folding Ingress workload) (rules_of lists folding Egress workload)) (range_with_len 0 (length folding.workloads)))

-- what may yet be looked at for the source at hand: four times the most for each kind for which nothing is kept
abbrev pub due_for_kinds : EstateLists → Folding → List (Option (List CachedConns)) → ℕ
due_for_kinds lists folding kept = 4 * most_rules lists folding * (folding.kind_count - cached_count kept)

-- With so many workloads and kinds, and rules at most that speak of one: among the pairs, four times the most for each
-- kind and each source that has not begun, the same for each kind for which nothing is kept of the source at hand, and
-- the most for each workload and direction; and behind the pairs the most for each place that is left.
unfoldable pub due_at : ℕ → ℕ → ℕ → ℕ → ℕ → ℕ
due_at count kinds most unkept place =
    if nat_lt place (pair_count count) then most * (4 * (kinds * (count - 1 - place / count) + unkept) + 2 * count)
    else most * (place_count count - place)

-- the same at a place, where this is kept
unfoldable pub due_from : EstateLists → Folding → ℕ → List (Option (List CachedConns)) → ℕ
due_from lists folding place kept = due_at (length folding.workloads) folding.kind_count (most_rules lists folding) (folding.kind_count - cached_count kept) place

-- ---- rows under way

-- The next rows are those at a place that is not behind the last one, and what is kept is of the source at that place.
pub record IsUnderWay (lists : EstateLists) (place end : ℕ) (kept : List (Option (List CachedConns))) : Type 0 where
  pub last : end ≡ place_count (number_of_workloads lists)
  pub within : place ≤ end
  pub fits : end < 2 ^ 64
  pub few : length kept ≤ (folding_of lists).kind_count
  pub keeps : IsCached lists (folding_of lists) (place / number_of_workloads lists) kept
