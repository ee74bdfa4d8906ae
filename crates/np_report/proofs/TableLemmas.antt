-- Tables that say the same have the same rows. For `equal_tables_print_equal_bytes`.
use Rattle.std.proofs.Common.{◌≡◌, ℕ, zero, suc, ◌+◌, ◌-◌, ◌^◌, ◌<◌, ◌≤◌, List, [], ◌∷◌, ◌++◌, true, None, length, map, refl, ap, ◌∙◌, arith}
use Rattle.std.specs.List.{flat_map, range_with_len}
use Rattle.np_report.specs.Prelude.{AreSameTables, Direction, Family, Format, Four, Query, Report, Row, RowKey, SayTheSame, Six, asked_rows, is_shown, list_text, report_text, texts_of}
use Rattle.np_model.proofs.FamilyLemmas.{same_family-itself}
use Rattle.np_conns.specs.Prelude.{Conns, conns_of}
use Rattle.np_model.specs.declared.direction.Direction.TheVariants.{Egress, Ingress}
use Rattle.np_routes.specs.Prelude.{ClusterTable, all_ingress_rows, cluster_rows, ingress_key, ingress_row}
use Rattle.np_table.proofs.RangeOneList.{walk-agrees}
use Rattle.np_conns.proofs.ConnLemmas.{conns_of-agrees}
use Rattle.np_table.specs.Prelude.{Stretch, Table, address_row, address_rows, all_address_rows, all_pair_rows, all_rows, four_of, pair_key, pair_rows, row_if, row_of, rows_in, rows_of_both, rows_towards, six_of, walk, workloads}

-- lists that are joined for each number of a range are those of another function that agrees there
flat_map-agrees : {Y : Type 0} (f g : ℕ → List Y) (from count : ℕ) → ((n : ℕ) → from ≤ n → n < from + count → f n ≡ g n) →
    flat_map f (range_with_len from count) ≡ flat_map g (range_with_len from count)
flat_map-agrees f g from zero same = refl
flat_map-agrees {Y} f g from (suc count) same =
    ap (λ (ys : List Y). ys ++ flat_map f (range_with_len (from + 1) count)) (same from (omega arith) (omega arith))
    ∙ ap (λ (ys : List Y). g from ++ ys) (flat_map-agrees f g (from + 1) count (λ n above below. same n (omega arith) (omega arith)))

-- ---- pairs

rows_of_both-agrees : (key : RowKey) (four four' six six' : Conns) → four ≡ four' → six ≡ six' → rows_of_both key four six ≡ rows_of_both key four' six'
rows_of_both-agrees key four four' six six' fours sixes = ap (λ (conns : Conns). rows_of_both key conns six) fours ∙ ap (λ (conns : Conns). rows_of_both key four' conns) sixes

-- rows of families that they tell of
rows_in-agrees : (families : List Family) (key : RowKey) (conns conns' : Family → Conns) → ((family : Family) → is_shown families family ≡ true → conns family ≡ conns' family) →
    rows_in families key conns ≡ rows_in families key conns'
rows_in-agrees [] key conns conns' same = rows_of_both-agrees key (conns Four) (conns' Four) (conns Six) (conns' Six) (same Four refl) (same Six refl)
rows_in-agrees (one ∷ []) key conns conns' same = ap (λ (made : Conns). row_if key None made) (same one (same_family-itself one))
rows_in-agrees (one ∷ two ∷ more) key conns conns' same = rows_of_both-agrees key (conns Four) (conns' Four) (conns Six) (conns' Six) (same Four refl) (same Six refl)

module _ (a b : Table) (same : AreSameTables a b) where
  pair_rows-same : (source destination : ℕ) → source < length a.names → destination < length a.names → pair_rows a source destination ≡ pair_rows b source destination
  unfolding pair_rows
  pair_rows-same source destination is is' =
      let key = pair_key source destination in
      let conns : Family → Conns = λ family. conns_of (a.pairs source destination family) in
      let conns' : Family → Conns = λ family. conns_of (b.pairs source destination family) in
      rows_in-agrees a.families key conns conns' (λ family tells. conns_of-agrees (a.pairs source destination family) (b.pairs source destination family)
      (same.pairs source destination family is is' tells))
      ∙ ap (λ (families : List Family). rows_in families key conns') same.families

  -- the numbers of the workloads are the same
  workloads-same : workloads a ≡ workloads b
  workloads-same = ap (λ (names : List (List ℕ)). range_with_len 0 (length names)) same.names

  all_pair_rows-same : all_pair_rows a ≡ all_pair_rows b
  unfolding all_pair_rows
  all_pair_rows-same =
      flat_map-agrees (λ source. flat_map (pair_rows a source) (workloads a)) (λ source. flat_map (pair_rows b source) (workloads a)) 0 (length a.names) (λ source low is.
      flat_map-agrees (pair_rows a source) (pair_rows b source) 0 (length a.names) (λ destination low' is'. pair_rows-same source destination (omega arith) (omega arith)))
      ∙ ap (λ (numbers : List ℕ). flat_map (λ source. flat_map (pair_rows b source) numbers) numbers) workloads-same

  -- ---- addresses

  address_rows-same : (workload : ℕ) (direction : Direction) → workload < length a.names → address_rows a workload direction ≡ address_rows b workload direction
  unfolding address_rows
  address_rows-same workload direction is =
      let passes = a.addresses workload direction in
      let passes' = b.addresses workload direction in
      let four : walk (passes Four) 0 (2 ^ 32 - 1) ≡ walk (passes' Four) 0 (2 ^ 32 - 1) =
      walk-agrees (passes Four) (passes' Four) 0 (2 ^ 32 - 1) (omega arith) (λ n spot low high. same.addresses workload direction Four n is (omega arith) spot) in
      let six : walk (passes Six) 0 (2 ^ 128 - 1) ≡ walk (passes' Six) 0 (2 ^ 128 - 1) =
      walk-agrees (passes Six) (passes' Six) 0 (2 ^ 128 - 1) (omega arith) (λ n spot low high. same.addresses workload direction Six n is (omega arith) spot) in
      ap (λ (stretches : List Stretch). map (address_row four_of) stretches ++ map (address_row six_of) (walk (passes Six) 0 (2 ^ 128 - 1))) four
      ∙ ap (λ (stretches : List Stretch). map (address_row four_of) (walk (passes' Four) 0 (2 ^ 32 - 1)) ++ map (address_row six_of) stretches) six

  rows_of_workload-same : (workload : ℕ) → workload < length a.names →
      rows_towards a workload Ingress ++ rows_towards a workload Egress ≡ rows_towards b workload Ingress ++ rows_towards b workload Egress
  rows_of_workload-same workload is =
      ap (λ (rows : List Row). rows ++ rows_towards a workload Egress) (ap (map (row_of workload Ingress)) (address_rows-same workload Ingress is))
      ∙ ap (λ (rows : List Row). rows_towards b workload Ingress ++ rows) (ap (map (row_of workload Egress)) (address_rows-same workload Egress is))

  all_address_rows-same : all_address_rows a ≡ all_address_rows b
  unfolding all_address_rows
  all_address_rows-same =
      flat_map-agrees (λ workload. rows_towards a workload Ingress ++ rows_towards a workload Egress) (λ workload. rows_towards b workload Ingress ++ rows_towards b workload Egress) 0 (length a.names)
      (λ workload low is. rows_of_workload-same workload (omega arith))
      ∙ ap (flat_map (λ workload. rows_towards b workload Ingress ++ rows_towards b workload Egress)) workloads-same

  -- ---- all of them

  all_rows-same : all_rows a ≡ all_rows b
  all_rows-same = ap (λ (rows : List Row). rows ++ all_address_rows a) all_pair_rows-same ∙ ap (λ (rows : List Row). all_pair_rows b ++ rows) all_address_rows-same

-- ---- clusters

module _ (a b : ClusterTable) (same : SayTheSame a b) where
  ingress_row-same : (workload : ℕ) → workload < length a.table.names → ingress_row a workload ≡ ingress_row b workload
  unfolding ingress_row
  ingress_row-same workload is = ap (row_if (ingress_key workload) None) (conns_of-agrees (a.ingresses workload) (b.ingresses workload) (same.ingresses workload is))

  all_ingress_rows-same : all_ingress_rows a ≡ all_ingress_rows b
  unfolding all_ingress_rows
  all_ingress_rows-same =
      flat_map-agrees (ingress_row a) (ingress_row b) 0 (length a.table.names) (λ workload low is. ingress_row-same workload (omega arith))
      ∙ ap (flat_map (ingress_row b)) (workloads-same a.table b.table same.tables)

  cluster_rows-same : cluster_rows a ≡ cluster_rows b
  cluster_rows-same =
      ap (λ (rows : List Row). rows ++ all_ingress_rows a) (all_rows-same a.table b.table same.tables)
      ∙ ap (λ (rows : List Row). all_rows b.table ++ rows) all_ingress_rows-same

  pub list_text-same : (query : Query) (format : Format) (report : Report) → list_text a query format report ≡ list_text b query format report
  unfolding list_text
  list_text-same query format report =
      ap (λ (names : List (List ℕ)). report_text format (texts_of names report (asked_rows query (cluster_rows a)))) same.tables.names
      ∙ ap (λ (rows : List Row). report_text format (texts_of b.table.names report (asked_rows query rows))) cluster_rows-same
