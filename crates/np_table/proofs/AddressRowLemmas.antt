-- What the row of an address says. For `one_row_for_each_address` and crates above.
use Rattle.std.proofs.Common.{◌≡◌, ◌≢◌, ◌<◌, ◌≤◌, ◌-◌, ◌^◌, ◌+◌, ◌==◌, ℕ, List, [], ◌∷◌, ◌++◌, Bool, true, false, ◌&&◌, nat_le, All, Option, None, Some, length, map, flat_map, append-nil, arith, refl, sym, ap, ◌∙◌, eq-eqb}
use Rattle.std.specs.Prelude.{filter}
use Rattle.std.proofs.lemmas.Bool.{and_left, and_parts, and_right, leb-true, ne_eqb}
use Rattle.std.proofs.lemmas.List.Elements.{All-cons, All-filter, All-head, All-nil, All-same, All-weaker, filter-append, filter_passes}
use Rattle.std.proofs.lemmas.List.Sums.{length-filter}
use Rattle.std.proofs.Math.Bool.{and-true}
use Rattle.np_table.specs.Prelude.{AddressRow, AreRight, Direction, Egress, EstateLists, Family, Four, Ingress, IsInFamily, OneRowSays, PortSpot, Row, RowKey, Six, Stretch, Table, address_row, address_rows, all_address_rows, all_pair_rows, all_rows, four_of, is_address, is_of_address, is_within, is_workload, pair_key, pair_rows, row_of, rows_of_address, rows_of_addresses, rows_towards, six_of, span_has, table_of, walk, workloads}
use Rattle.np_conns.specs.Prelude.{Conns, conns_of, has_spot}
use Rattle.np_model.specs.Prelude.{IsLawful}
use Rattle.np_fold.specs.Prelude.{Folding, folding_of, workload_number}
use Rattle.np_rules.specs.Prelude.{pod, pod_at}
use Rattle.np_kinds.proofs.PairLemmas.{with_address-address_allows}
use Rattle.np_table.proofs.RangeCounts.{one_range}
use Rattle.np_table.proofs.RangeWalks.{walk-right}
use Rattle.np_table.proofs.RowLemmas.{HasKey, filter-by, filter-flat_map, filter-map, filter-map_none, pair_rows-key, range-none, range-only}
use Rattle.np_table.proofs.SaidLemmas.{number-within}
use Rattle.np_conns.proofs.ConnLemmas.{conns_of-has}
use Rattle.np_kinds.specs.Prelude.{address_allows, with_address}

-- ---- the range of an address

-- what passes at a number is what its stretch says
abbrev TellsAt : (ℕ → PortSpot → Bool) → ℕ → Stretch → Type 0
TellsAt passes n stretch = is_within n stretch ≡ true → conns_of (passes n) ≡ stretch.conns

AreRight-tell : (passes : ℕ → PortSpot → Bool) (from to n : ℕ) (before : Option Conns) (stretches : List Stretch) → AreRight passes from to before stretches → All (TellsAt passes n) stretches
AreRight-tell passes from to n before [] are = All-nil (TellsAt passes n)
AreRight-tell passes from to n before (stretch ∷ stretches) are =
    All-cons (TellsAt passes n) stretch stretches
    (λ within. let ends = and_parts (nat_le stretch.lo n) (nat_le n stretch.hi) within in are.0.conns n (leb-true stretch.lo n ends.0) (leb-true n stretch.hi ends.1))
    (AreRight-tell passes (stretch.hi + 1) to n (Some stretch.conns) stretches are.1)

only_one : (stretches : List Stretch) → length stretches ≡ 1 → (stretch : Stretch) × (stretches ≡ stretch ∷ [])
only_one [] one = absurd (omega (arith, one))
only_one (stretch ∷ []) one = (stretch, refl)
only_one (stretch ∷ next ∷ stretches) one = absurd (omega (arith, one))

-- of the right list one stretch has a number of the space, and it says what passes there
one_stretch : (passes : ℕ → PortSpot → Bool) (high n : ℕ) → n ≤ high → (stretch : Stretch) × (filter (is_within n) (walk passes 0 high) ≡ stretch ∷ []) × (stretch.conns ≡ conns_of (passes n))
one_stretch passes high n below =
    let stretches = walk passes 0 high in
    let right = walk-right passes 0 high (omega arith) in
    let one = only_one (filter (is_within n) stretches) (length-filter (is_within n) stretches ∙ one_range passes 0 high n stretches right (omega arith) below) in
    let tells = All-filter (is_within n) (TellsAt passes n) stretches (AreRight-tell passes 0 (high + 1) n None stretches right) in
    let within = filter_passes (is_within n) stretches in (
      one.0,
      one.1,
      sym (All-head (TellsAt passes n) one.0 [] (All-same (TellsAt passes n) (one.0 ∷ []) (filter (is_within n) stretches) (sym one.1) tells)
          (All-head (λ (stretch : Stretch). is_within n stretch ≡ true) one.0 []
          (All-same (λ (stretch : Stretch). is_within n stretch ≡ true) (one.0 ∷ []) (filter (is_within n) stretches) (sym one.1) within))),
    )

-- ---- the row of an address among those of a workload and a direction

abbrev has_address : Family → ℕ → AddressRow → Bool
has_address family number row = span_has row.span family number

-- of the rows of all addresses one has an address, and it says what passes there
one_has : (passes : Family → ℕ → PortSpot → Bool) (family : Family) (number : ℕ) → IsInFamily family number →
    (row : AddressRow) × (filter (has_address family number) (rows_of_addresses passes) ≡ row ∷ []) × (row.conns ≡ conns_of (passes family number))
one_has passes Four number within =
    let four = walk (passes Four) 0 (2 ^ 32 - 1) in
    let six = walk (passes Six) 0 (2 ^ 128 - 1) in
    let one = one_stretch (passes Four) (2 ^ 32 - 1) number within in (
      address_row four_of one.0,
      filter-append (has_address Four number) (map (address_row four_of) four) (map (address_row six_of) six)
          ∙ ap (λ (rows : List AddressRow). filter (has_address Four number) (map (address_row four_of) four) ++ rows)
          (filter-map_none (has_address Four number) (address_row six_of) six (λ stretch. refl))
          ∙ append-nil (filter (has_address Four number) (map (address_row four_of) four))
          ∙ filter-map (has_address Four number) (is_within number) (address_row four_of) four (λ stretch. refl)
          ∙ ap (λ (found : List Stretch). map (address_row four_of) found) one.1,
      one.2,
    )
one_has passes Six number within =
    let four = walk (passes Four) 0 (2 ^ 32 - 1) in
    let six = walk (passes Six) 0 (2 ^ 128 - 1) in
    let one = one_stretch (passes Six) (2 ^ 128 - 1) number within in (
      address_row six_of one.0,
      filter-append (has_address Six number) (map (address_row four_of) four) (map (address_row six_of) six)
          ∙ ap (λ (rows : List AddressRow). rows ++ filter (has_address Six number) (map (address_row six_of) six))
          (filter-map_none (has_address Six number) (address_row four_of) four (λ stretch. refl))
          ∙ filter-map (has_address Six number) (is_within number) (address_row six_of) six (λ stretch. refl)
          ∙ ap (λ (found : List Stretch). map (address_row six_of) found) one.1,
      one.2,
    )

-- ---- the rows of a workload and a direction among all rows

-- a row of a workload and a direction is of the addresses of its span
is_of_address-own : (workload : ℕ) (direction : Direction) (family : Family) (number : ℕ) (row : AddressRow) →
    is_of_address workload direction family number (row_of workload direction row) ≡ has_address family number row
is_of_address-own workload Ingress family number row =
    ap (λ (own : Bool). span_has row.span family number && own) (eq-eqb workload workload refl) ∙ and-true (span_has row.span family number)
is_of_address-own workload Egress family number row =
    ap (λ (own : Bool). own && span_has row.span family number) (eq-eqb workload workload refl)

-- and of none with another workload
is_of_address-apart : (workload near : ℕ) (direction own : Direction) (family : Family) (number : ℕ) (row : AddressRow) → near ≢ workload →
    is_of_address workload direction family number (row_of near own row) ≡ false
is_of_address-apart workload near Ingress Ingress family number row apart = and_right (span_has row.span family number) (near == workload) (ne_eqb near workload apart)
is_of_address-apart workload near Ingress Egress family number row apart = refl
is_of_address-apart workload near Egress Ingress family number row apart = refl
is_of_address-apart workload near Egress Egress family number row apart = and_left (near == workload) (span_has row.span family number) (ne_eqb near workload apart)

-- nor is a row between workloads
is_of_address-between : (workload : ℕ) (direction : Direction) (family : Family) (number source destination : ℕ) (row : Row) → HasKey (pair_key source destination) row →
    is_of_address workload direction family number row ≡ false
is_of_address-between workload Ingress family number source destination row same =
    ap (λ (key : RowKey). is_address family number key.source && is_workload workload key.destination) same
is_of_address-between workload Egress family number source destination row same =
    ap (λ (key : RowKey). is_workload workload key.source && is_address family number key.destination) same ∙ and_right (source == workload) false refl

abbrev rows_of_workload : Table → ℕ → List Row
rows_of_workload table workload = rows_towards table workload Ingress ++ rows_towards table workload Egress

rows_of_address-apart : (table : Table) (workload near : ℕ) (direction : Direction) (family : Family) (number : ℕ) → near ≢ workload →
    rows_of_address workload direction family number (rows_of_workload table near) ≡ []
rows_of_address-apart table workload near direction family number apart =
    let none : (own : Direction) → rows_of_address workload direction family number (rows_towards table near own) ≡ [] = λ own.
    filter-map_none (is_of_address workload direction family number) (row_of near own) (address_rows table near own) (λ row. is_of_address-apart workload near direction own family number row apart) in
    filter-append (is_of_address workload direction family number) (rows_towards table near Ingress) (rows_towards table near Egress)
    ∙ ap (λ (rows : List Row). rows ++ rows_of_address workload direction family number (rows_towards table near Egress)) (none Ingress)
    ∙ none Egress

rows_of_address-own : (table : Table) (workload : ℕ) (direction : Direction) (family : Family) (number : ℕ) →
    rows_of_address workload direction family number (rows_of_workload table workload) ≡ map (row_of workload direction) (filter (has_address family number) (address_rows table workload direction))
rows_of_address-own table workload Ingress family number =
    let test : Row → Bool = is_of_address workload Ingress family number in
    filter-append test (rows_towards table workload Ingress) (rows_towards table workload Egress)
    ∙ ap (λ (rows : List Row). filter test (rows_towards table workload Ingress) ++ rows) (filter-map_none test (row_of workload Egress) (address_rows table workload Egress) (λ row. refl))
    ∙ append-nil (filter test (rows_towards table workload Ingress))
    ∙ filter-map test (has_address family number) (row_of workload Ingress) (address_rows table workload Ingress) (is_of_address-own workload Ingress family number)
rows_of_address-own table workload Egress family number =
    let test : Row → Bool = is_of_address workload Egress family number in
    filter-append test (rows_towards table workload Ingress) (rows_towards table workload Egress)
    ∙ ap (λ (rows : List Row). rows ++ filter test (rows_towards table workload Egress)) (filter-map_none test (row_of workload Ingress) (address_rows table workload Ingress) (λ row. refl))
    ∙ filter-map test (has_address family number) (row_of workload Egress) (address_rows table workload Egress) (is_of_address-own workload Egress family number)

rows_of_address-addresses : (table : Table) (workload : ℕ) (direction : Direction) (family : Family) (number : ℕ) → workload < length table.names →
    rows_of_address workload direction family number (all_address_rows table) ≡ map (row_of workload direction) (filter (has_address family number) (address_rows table workload direction))
unfolding all_address_rows
rows_of_address-addresses table workload direction family number within =
    filter-flat_map (is_of_address workload direction family number) (rows_of_workload table) (workloads table)
    ∙ range-only (λ near. rows_of_address workload direction family number (rows_of_workload table near)) 0 (length table.names) workload (omega arith) (omega arith)
    (λ near apart. rows_of_address-apart table workload near direction family number apart)
    ∙ rows_of_address-own table workload direction family number

rows_of_address-pair : (table : Table) (workload : ℕ) (direction : Direction) (family : Family) (number source destination : ℕ) →
    rows_of_address workload direction family number (pair_rows table source destination) ≡ []
rows_of_address-pair table workload direction family number source destination =
    filter-by (is_of_address workload direction family number) false (pair_rows table source destination)
    (All-weaker (HasKey (pair_key source destination)) (λ (row : Row). is_of_address workload direction family number row ≡ false)
    (is_of_address-between workload direction family number source destination) (pair_rows table source destination) (pair_rows-key table source destination))

rows_of_address-pairs : (table : Table) (workload : ℕ) (direction : Direction) (family : Family) (number : ℕ) → rows_of_address workload direction family number (all_pair_rows table) ≡ []
unfolding all_pair_rows
rows_of_address-pairs table workload direction family number =
    let test : Row → Bool = is_of_address workload direction family number in
    filter-flat_map test (λ source. flat_map (pair_rows table source) (workloads table)) (workloads table)
    ∙ range-none (λ source. filter test (flat_map (pair_rows table source) (workloads table))) 0 (length table.names) (λ source _.
    filter-flat_map test (pair_rows table source) (workloads table)
    ∙ range-none (λ destination. filter test (pair_rows table source destination)) 0 (length table.names)
    (λ destination _. rows_of_address-pair table workload direction family number source destination))

rows_of_address-all : (table : Table) (workload : ℕ) (direction : Direction) (family : Family) (number : ℕ) → workload < length table.names →
    rows_of_address workload direction family number (all_rows table) ≡ map (row_of workload direction) (filter (has_address family number) (address_rows table workload direction))
rows_of_address-all table workload direction family number within =
    filter-append (is_of_address workload direction family number) (all_pair_rows table) (all_address_rows table)
    ∙ ap (λ (rows : List Row). rows ++ rows_of_address workload direction family number (all_address_rows table)) (rows_of_address-pairs table workload direction family number)
    ∙ rows_of_address-addresses table workload direction family number within

-- ---- the row of an address among all rows

-- of a table one row is of a workload and an address, and it says what passes between them
pub one_row-table : (table : Table) (workload : ℕ) (direction : Direction) (family : Family) (number : ℕ) → workload < length table.names → IsInFamily family number →
    OneRowSays workload direction family number (all_rows table) (table.addresses workload direction family number)
unfolding address_rows
one_row-table table workload direction family number within in_family =
    let one = one_has (table.addresses workload direction) family number in_family in (
      row_of workload direction one.0,
      rows_of_address-all table workload direction family number within ∙ ap (λ (found : List AddressRow). map (row_of workload direction) found) one.1,
      λ spot is. ap (λ (conns : Conns). has_spot conns spot) one.2 ∙ conns_of-has (table.addresses workload direction family number) spot is,
    )

addresses-are : (lists : EstateLists) (folding : Folding) (workload : ℕ) (direction : Direction) (family : Family) (number : ℕ) (spot : PortSpot) →
    (table_of lists folding).addresses workload direction family number spot ≡ address_allows lists folding workload direction family number spot
unfolding table_of
addresses-are lists folding workload direction family number spot = refl

-- and so between a pod of the workload and the address
pub one_row-pods : (lists : EstateLists) (p : ℕ) (direction : Direction) (family : Family) (number : ℕ) → IsLawful lists → p < length lists.pods → IsInFamily family number →
    OneRowSays (workload_number lists p) direction family number (all_rows (table_of lists (folding_of lists))) (with_address lists direction (pod (pod_at lists p)) family number)
one_row-pods lists p direction family number lawful p_in in_family =
    let one = one_row-table (table_of lists (folding_of lists)) (workload_number lists p) direction family number (number-within lists p p_in) in_family in (
      one.0,
      one.1,
      λ spot is.
          one.2 spot is
          ∙ addresses-are lists (folding_of lists) (workload_number lists p) direction family number spot
          ∙ sym (with_address-address_allows lists p direction family number spot lawful p_in),
    )
