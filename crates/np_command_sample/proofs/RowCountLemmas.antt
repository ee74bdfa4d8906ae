-- How many rows the tables of the samples have. For `samples_have_few_rows` and crates above.
use Rattle.std.proofs.Common.{◌≡◌, ℕ, zero, suc, ◌+◌, ◌*◌, ◌-◌, ◌^◌, ◌<◌, ◌≤◌, List, [], ◌∷◌, ◌++◌, map, Bool, length, Option, None, Some, refl, sym, ap, ◌∙◌, arith, length-append}
use Rattle.std.specs.List.{flat_map}
use Rattle.std.proofs.lemmas.Bool.{cond_both}
use Rattle.std.proofs.lemmas.List.{length-map}
use Rattle.std.proofs.lemmas.List.FromFn.{length-range_with_len}
use Rattle.np_addr.specs.declared.address.Family.{Family}
use Rattle.np_addr.specs.declared.address.Family.TheVariants as family
use Rattle.np_conns.specs.Prelude.{Conns, are_same_conns, conns_of}
use Rattle.np_command_sample.specs.Prelude.{Direction, Egress, EstateLists, Ingress, PortSpot, sample_estate}
use Rattle.np_fold.specs.Prelude.{folding_of, workload_count, workloads_of}
use Rattle.np_fold.proofs.WorkloadLemmas.{workloads-count}
use Rattle.np_routes.specs.Prelude.{ClusterTable, all_ingress_rows, cluster_rows, cluster_table, ingress_row}
use Rattle.np_routes.proofs.ClusterLemmas.{ingress_row-one}
use Rattle.np_rules.specs.Prelude.{pod_at}
use Rattle.np_table.proofs.RangeOneList.{right-walk}
use Rattle.np_conns.proofs.ConnLemmas.{conns_of-agrees}
use Rattle.np_table.specs.Prelude.{IsNext, Stretch, Table, address_row, address_rows, all_address_rows, all_pair_rows, all_rows, estate_table, four_of, pair_key, pair_rows, row_if, row_of, rows_in, rows_of_addresses, rows_of_both, rows_towards, six_of, stretch_at, table_of, walk, walk_on, workloads}
use Rattle.np_kinds.specs.Prelude.{address_allows, source_pod}
use Rattle.np_table.specs.declared.rows.Row.{Row}
use Rattle.np_table.specs.declared.rows.RowKey.{RowKey}
use Rattle.np_command_sample.proofs.AddressLemmas.{with_address-six}
use Rattle.np_command_sample.proofs.WorkloadLemmas.{workload_count-sample}
use Rattle.np_table.proofs.SaidLemmas.{row_if-one}

-- where each gives at most so many
pub length-flat_map-le : {X Y : Type 0} (f : X → List Y) (most : ℕ) → ((x : X) → length (f x) ≤ most) → (xs : List X) → length (flat_map f xs) ≤ most * length xs
length-flat_map-le f most each [] = omega arith
length-flat_map-le f most each (x ∷ xs) = omega (arith, length-append (f x) (flat_map f xs), each x, length-flat_map-le f most each xs)

-- ---- rows of pairs and of the controller

length-rows_of_both : (key : RowKey) (four six : Conns) → length (rows_of_both key four six) ≤ 2
length-rows_of_both key four six =
    cond_both (are_same_conns four six) _ _ (λ (rows : List Row). length rows ≤ 2)
    (λ same. omega (arith, row_if-one key None four))
    (λ differ. omega (arith, length-append (row_if key (Some family.Four) four) (row_if key (Some family.Six) six), row_if-one key (Some family.Four) four, row_if-one key (Some family.Six) six))

length-rows_in : (families : List Family) (key : RowKey) (conns : Family → Conns) → length (rows_in families key conns) ≤ 2
length-rows_in [] key conns = length-rows_of_both key (conns family.Four) (conns family.Six)
length-rows_in (one ∷ []) key conns = omega (arith, row_if-one key None (conns one))
length-rows_in (one ∷ other ∷ families) key conns = length-rows_of_both key (conns family.Four) (conns family.Six)

length-pair_rows : (table : Table) (source destination : ℕ) → length (pair_rows table source destination) ≤ 2
unfolding pair_rows
length-pair_rows table source destination = length-rows_in table.families (pair_key source destination) (λ one. conns_of (table.pairs source destination one))

length-all_pair_rows : (table : Table) → length table.names ≤ 1000 → length (all_pair_rows table) ≤ 2000 * length table.names
unfolding all_pair_rows
length-all_pair_rows table few =
    let count : length (workloads table) ≡ length table.names = length-range_with_len 0 (length table.names) in
    omega (
      arith,
      count,
      length-flat_map-le (λ source. flat_map (pair_rows table source) (workloads table)) 2000
          (λ source. omega (arith, few, count, length-flat_map-le (pair_rows table source) 2 (length-pair_rows table source) (workloads table))) (workloads table),
    )

length-all_ingress_rows : (cluster : ClusterTable) → length (all_ingress_rows cluster) ≤ length cluster.table.names
unfolding all_ingress_rows
length-all_ingress_rows cluster = omega (arith, length-flat_map-le (ingress_row cluster) 1 (ingress_row-one cluster) (workloads cluster.table), length-range_with_len 0 (length cluster.table.names))

-- ---- rows of addresses

length-walk_on : (passes : ℕ → PortSpot → Bool) (last : Stretch) (count : ℕ) → length (walk_on passes last count) ≤ count + 1
length-walk_on passes last zero = omega arith
length-walk_on passes last (suc count) =
    cond_both (are_same_conns (conns_of (passes (last.hi + 1))) last.conns) _ _ (λ (stretches : List Stretch). length stretches ≤ suc count + 1)
    (λ same. omega (arith, length-walk_on passes (record last { hi = last.hi + 1 }) count))
    (λ differ. omega (arith, length-walk_on passes (stretch_at passes (last.hi + 1)) count))

-- at most one range for each number
length-walk : (passes : ℕ → PortSpot → Bool) (high : ℕ) → length (walk passes 0 high) ≤ high + 1
unfolding walk
length-walk passes high = omega (arith, length-walk_on passes (stretch_at passes 0) (high - 0))

-- one range where the same passes at each
length-walk-one : (passes : ℕ → PortSpot → Bool) (high : ℕ) → ((number : ℕ) (spot : PortSpot) → passes number spot ≡ passes 0 spot) → length (walk passes 0 high) ≡ 1
length-walk-one passes high same =
    let whole : Stretch = record { lo = 0; hi = high; conns = conns_of (passes 0) } in
    let next : IsNext passes 0 None whole = record { start = refl; filled = omega arith; conns = λ n above below. conns_of-agrees (passes n) (passes 0) (λ spot is. same n spot); differs = λ none. cc }
    in
    ap length (sym (right-walk passes 0 high (whole ∷ []) (omega arith) (next, refl)))

length-rows_of_addresses : (passes : Family → ℕ → PortSpot → Bool) → ((number : ℕ) (spot : PortSpot) → passes family.Six number spot ≡ passes family.Six 0 spot) →
    length (rows_of_addresses passes) ≤ 2 ^ 32 + 1
length-rows_of_addresses passes same =
    let four = walk (passes family.Four) 0 (2 ^ 32 - 1) in
    let six = walk (passes family.Six) 0 (2 ^ 128 - 1) in
    omega (
      arith,
      length-append (map (address_row four_of) four) (map (address_row six_of) six),
      length-map four (address_row four_of),
      length-map six (address_row six_of),
      length-walk
          (passes family.Four) (2 ^ 32 - 1),
      length-walk-one (passes family.Six) (2 ^ 128 - 1) same,
    )

-- the same passes at each IPv6 address
abbrev TellsNoSixApart : Table → Type 0
TellsNoSixApart table = (workload : ℕ) (direction : Direction) (number : ℕ) (spot : PortSpot) → table.addresses workload direction family.Six number spot
    ≡ table.addresses workload direction family.Six 0 spot

length-rows_towards : (table : Table) → TellsNoSixApart table → (workload : ℕ) (direction : Direction) → length (rows_towards table workload direction) ≤ 2 ^ 32 + 1
unfolding address_rows
length-rows_towards table same workload direction =
    omega (
      arith,
      length-map (rows_of_addresses (table.addresses workload direction)) (row_of workload direction),
      length-rows_of_addresses (table.addresses workload direction)
          (same workload direction),
    )

length-all_address_rows : (table : Table) → TellsNoSixApart table → length (all_address_rows table) ≤ 2 ^ 34 * length table.names
unfolding all_address_rows
length-all_address_rows table same =
    let towards = length-rows_towards table same in
    let each : (workload : ℕ) → length (rows_towards table workload Ingress ++ rows_towards table workload Egress) ≤ 2 ^ 34 = λ workload. omega
    (arith, length-append (rows_towards table workload Ingress) (rows_towards table workload Egress), towards workload Ingress, towards workload Egress) in
    omega (
      arith,
      length-flat_map-le (λ workload. rows_towards table workload Ingress ++ rows_towards table workload Egress) (2 ^ 34) each (workloads table),
      length-range_with_len 0
          (length table.names),
    )

-- ---- all of them

length-cluster_rows : (cluster : ClusterTable) → length cluster.table.names ≤ 1000 → TellsNoSixApart cluster.table → length (cluster_rows cluster) < 2 ^ 64
length-cluster_rows cluster few same =
    omega (
      arith,
      few,
      length-append (all_rows cluster.table) (all_ingress_rows cluster),
      length-append (all_pair_rows cluster.table) (all_address_rows cluster.table),
      length-all_pair_rows cluster.table few,
      length-all_address_rows cluster.table same,
      length-all_ingress_rows cluster,
    )

length-names : (lists : EstateLists) → length (estate_table lists).names ≡ workload_count lists
unfolding table_of folding_of
length-names lists = length-map (workloads_of lists) (λ one. one.name) ∙ workloads-count lists

no_six_apart-sample : (n : ℕ) → TellsNoSixApart (estate_table (sample_estate n))
unfolding table_of address_allows
no_six_apart-sample n workload direction number spot = with_address-six n direction (pod_at (sample_estate n) (source_pod (folding_of (sample_estate n)) workload)) number spot

-- whatever the controller of ingresses is
pub length-rows-sample : (n : ℕ) (controller : Option ℕ) → n ≤ 1000 → length (cluster_rows (cluster_table (sample_estate n) controller)) < 2 ^ 64
unfolding cluster_table
length-rows-sample n controller few =
    length-cluster_rows (cluster_table (sample_estate n) controller) (omega (arith, few, length-names (sample_estate n), workload_count-sample n)) (no_six_apart-sample n)
