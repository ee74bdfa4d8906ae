-- The rows of the table have ends of the estate, and connections of which no two ranges touch. For `rows_of_the_table_are_of_the_estate`.
use Rattle.std.proofs.Common.{ℕ, ◌+◌, ◌-◌, ◌^◌, ◌≤◌, List, [], ◌∷◌, ◌++◌, map, length, Bool, true, false, cond, All, Option, Some, None, subst, arith}
use Rattle.std.specs.List.{flat_map, range_with_len}
use Rattle.std.proofs.lemmas.List.Elements.{All-append, All-cons, All-map, All-nil, All-weaker}
use Rattle.np_base.proofs.Lists.{All-numbers}
use Rattle.np_meaning.specs.Prelude.{EstateLists, Family, IsEndOf, IsRowOf, IsSpan, Row}
use Rattle.np_addr.specs.declared.address.Family.TheVariants as family
use Rattle.np_conns.specs.Prelude.{Conns, IsConns, are_same_conns, conns_of}
use Rattle.np_conns.specs.declared.port_spot.PortSpot.{PortSpot}
use Rattle.np_conns.proofs.ConnLemmas.{conns_of-well}
use Rattle.np_model.specs.declared.direction.Direction.{Direction}
use Rattle.np_model.specs.declared.direction.Direction.TheVariants.{Ingress, Egress}
use Rattle.np_routes.specs.Prelude.{ClusterTable, all_ingress_rows, cluster_rows, cluster_table, ingress_key, ingress_row}
use Rattle.np_routes.proofs.ClusterLemmas.{estate-names}
use Rattle.np_table.proofs.RangeOneList.{AreRight-ordered}
use Rattle.np_table.proofs.RangeWalks.{walk-right}
use Rattle.np_table.specs.Prelude.{AreRight, Stretch, Table, address_row, address_rows, all_address_rows, all_pair_rows, all_rows, estate_table, four_of, is_nothing, pair_key, pair_rows, row_if, row_of, rows_in, rows_of_addresses, rows_of_both, rows_towards, six_of, walk}
use Rattle.np_kinds.specs.Prelude.{IsWorkload, number_of_workloads}
use Rattle.np_table.specs.declared.rows.AddressRow.{AddressRow}
use Rattle.np_table.specs.declared.rows.RowKey.{RowKey}

-- ---- stretches

-- a stretch of numbers up to the greatest of a space is not empty
record IsStretchOf (high : ℕ) (stretch : Stretch) : Type 0 where
  pub filled : stretch.lo ≤ stretch.hi
  pub within : stretch.hi ≤ high
  pub conns : IsConns stretch.conns

right-stretches : (passes : ℕ → PortSpot → Bool) (from high : ℕ) (before : Option Conns) (stretches : List Stretch) → AreRight passes from (high + 1) before stretches →
    All (IsStretchOf high) stretches
right-stretches passes from high before [] right = All-nil (IsStretchOf high)
right-stretches passes from high before (stretch ∷ stretches) right =
    let past = AreRight-ordered passes (stretch.hi + 1) (high + 1) (Some stretch.conns) stretches right.1 in
    All-cons (IsStretchOf high) stretch stretches (record {
      filled = right.0.filled;
      within = omega (arith, past);
      conns = subst IsConns (right.0.conns stretch.lo (omega arith) right.0.filled) (conns_of-well (passes stretch.lo));
    })
    (right-stretches passes (stretch.hi + 1) high (Some stretch.conns) stretches right.1)

walk-stretches : (passes : ℕ → PortSpot → Bool) (high : ℕ) → All (IsStretchOf high) (walk passes 0 high)
walk-stretches passes high = right-stretches passes 0 high None (walk passes 0 high) (walk-right passes 0 high (omega arith))

-- ---- rows

module _ (lists : EstateLists) where
  one_row : (key : RowKey) → IsEndOf lists key.source → IsEndOf lists key.destination → (mark : Option Family) (passes : PortSpot → Bool) → All (IsRowOf lists) (row_if key mark (conns_of passes))
  one_row key source destination mark passes = by (is_nothing (conns_of passes))
    where
      by : (nothing : Bool) → All (IsRowOf lists) (cond nothing [] (record { key = key; family = mark; conns = conns_of passes } ∷ []))
      by true = All-nil (IsRowOf lists)
      by false = All-cons (IsRowOf lists) _ [] (record { source = source; destination = destination; conns = conns_of-well passes }) (All-nil (IsRowOf lists))

  both_rows : (key : RowKey) → IsEndOf lists key.source → IsEndOf lists key.destination → (four six : PortSpot → Bool) → All (IsRowOf lists) (rows_of_both key (conns_of four) (conns_of six))
  both_rows key source destination four six = by (are_same_conns (conns_of four) (conns_of six))
    where
      by : (same : Bool) → All (IsRowOf lists) (cond same (row_if key None (conns_of four)) (row_if key (Some family.Four) (conns_of four) ++ row_if key (Some family.Six) (conns_of six)))
      by true = one_row key source destination None four
      by false = All-append (IsRowOf lists) _ _ (one_row key source destination (Some family.Four) four) (one_row key source destination (Some family.Six) six)

  family_rows : (key : RowKey) → IsEndOf lists key.source → IsEndOf lists key.destination → (families : List Family) (passes : Family → PortSpot → Bool) →
      All (IsRowOf lists) (rows_in families key (λ one. conns_of (passes one)))
  family_rows key source destination [] passes = both_rows key source destination (passes family.Four) (passes family.Six)
  family_rows key source destination (one ∷ []) passes = one_row key source destination None (passes one)
  family_rows key source destination (one ∷ other ∷ families) passes = both_rows key source destination (passes family.Four) (passes family.Six)

  pair_rows-well : (table : Table) (source destination : ℕ) → IsWorkload lists source → IsWorkload lists destination → All (IsRowOf lists) (pair_rows table source destination)
  unfolding pair_rows
  pair_rows-well table source destination from to = family_rows (pair_key source destination) from to table.families (table.pairs source destination)

  -- an address row tells of a range that is not empty
  record IsAddressRow (row : AddressRow) : Type 0 where
    pub span : IsSpan row.span
    pub conns : IsConns row.conns

  addresses-well : (passes : Family → ℕ → PortSpot → Bool) → All IsAddressRow (rows_of_addresses passes)
  addresses-well passes =
      All-append IsAddressRow (map (address_row four_of) (walk (passes family.Four) 0 (2 ^ 32 - 1))) (map (address_row six_of) (walk (passes family.Six) 0 (2 ^ 128 - 1)))
      (All-map IsAddressRow (address_row four_of) _
      (All-weaker (IsStretchOf (2 ^ 32 - 1)) (λ stretch. IsAddressRow (address_row four_of stretch)) (λ stretch is. record { span = (is.filled, is.within); conns = is.conns }) _
      (walk-stretches (passes family.Four) (2 ^ 32 - 1))))
      (All-map IsAddressRow (address_row six_of) _
      (All-weaker (IsStretchOf (2 ^ 128 - 1)) (λ stretch. IsAddressRow (address_row six_of stretch)) (λ stretch is. record { span = (is.filled, is.within); conns = is.conns }) _
      (walk-stretches (passes family.Six) (2 ^ 128 - 1))))

  towards-well : (table : Table) (workload : ℕ) (direction : Direction) → IsWorkload lists workload → All (IsRowOf lists) (rows_towards table workload direction)
  unfolding address_rows
  towards-well table workload direction is =
      All-map (IsRowOf lists) (row_of workload direction) (rows_of_addresses (table.addresses workload direction))
      (All-weaker IsAddressRow (λ row. IsRowOf lists (row_of workload direction row)) (λ row well. by direction row well) (rows_of_addresses (table.addresses workload direction))
      (addresses-well (table.addresses workload direction)))
    where
      by : (direction : Direction) (row : AddressRow) → IsAddressRow row → IsRowOf lists (row_of workload direction row)
      by Ingress row well = record { source = well.span; destination = is; conns = well.conns }
      by Egress row well = record { source = is; destination = well.span; conns = well.conns }

  -- ---- all of them

  -- what holds of what each workload gives
  All-workloads : (f : ℕ → List Row) → ((k : ℕ) → IsWorkload lists k → All (IsRowOf lists) (f k)) → All (IsRowOf lists) (flat_map f (range_with_len 0 (length (estate_table lists).names)))
  All-workloads f each = All-numbers (IsRowOf lists) f 0 (length (estate_table lists).names) (number_of_workloads lists) (omega (arith, estate-names lists)) each

  pub all_rows-well : All (IsRowOf lists) (all_rows (estate_table lists))
  unfolding all_pair_rows all_address_rows
  all_rows-well =
      All-append (IsRowOf lists) (all_pair_rows (estate_table lists)) (all_address_rows (estate_table lists))
      (All-workloads _ (λ source from. All-workloads _ (λ destination to. pair_rows-well (estate_table lists) source destination from to)))
      (All-workloads _ (λ workload is. All-append (IsRowOf lists) _ _ (towards-well (estate_table lists) workload Ingress is) (towards-well (estate_table lists) workload Egress is)))

  ingress_row-well : (cluster : ClusterTable) (workload : ℕ) → IsWorkload lists workload → All (IsRowOf lists) (ingress_row cluster workload)
  unfolding ingress_row
  ingress_row-well cluster workload is = one_row (ingress_key workload) tt is None (cluster.ingresses workload)

  pub cluster_rows-well : (controller : Option ℕ) → All (IsRowOf lists) (cluster_rows (cluster_table lists controller))
  unfolding cluster_table all_ingress_rows
  cluster_rows-well controller =
      All-append (IsRowOf lists) (all_rows (estate_table lists)) (all_ingress_rows (cluster_table lists controller)) all_rows-well
      (All-workloads (ingress_row (cluster_table lists controller)) (λ workload is. ingress_row-well (cluster_table lists controller) workload is))
