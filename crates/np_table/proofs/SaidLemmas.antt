-- What the rows of a pair say. For `no_row_with_itself`, `one_row_where_the_same_ports_pass` and 2 more.
use Rattle.std.proofs.Common.{◌≡◌, ◌≢◌, ◌<◌, ◌≤◌, ◌==◌, ℕ, List, [], ◌∷◌, ◌++◌, Bool, true, false, ◌&&◌, ◌||◌, All, Contains, Option, None, Some, length, flat_map, append-nil, if◌then◌else◌, arith, refl, sym, ap, ◌∙◌, eq-eqb}
use Rattle.std.specs.Prelude.{◌↔◌}
use Rattle.std.proofs.lemmas.Bool.{and_from, and_parts, and_right, false≢true, ne_eqb}
use Rattle.std.proofs.lemmas.List.Elements.{All-cons, All-contains, All-head, All-nil, All-same, All-tail, All-weaker, filter-append}
use Rattle.std.proofs.lemmas.List.Folds.{list_any-append}
use Rattle.std.proofs.Math.Bool.{or-false}
use Rattle.np_table.specs.Prelude.{AllowSamePorts, Direction, Egress, EstateLists, Family, Four, Ingress, IsUnmarked, PortSpot, Proto, Range, Row, RowKey, Sctp, Six, Table, Tcp, Udp, address_rows, all_address_rows, all_pair_rows, all_rows, allows_in, has_no_range, is_between, is_nothing, is_workload, pair_key, pair_rows, row_if, row_of, rows_between, rows_in, rows_of_both, rows_towards, says, speaks_of, table_of, workloads}
use Rattle.np_base.specs.Ranges.{holds}
use Rattle.np_conns.proofs.RunLemmas.{runs-by_members}
use Rattle.np_conns.specs.Prelude.{Conns, are_same_conns, conns_of, has_spot, is_spot, ranges_of, spans_of}
use Rattle.np_model.specs.Prelude.{IsLawful, families_of}
use Rattle.np_fold.proofs.WorkloadLemmas.{number-in_workloads}
use Rattle.np_fold.specs.Prelude.{Folding, folding_of, members_of, workload_number}
use Rattle.np_conns.proofs.ConnLemmas.{are_same_conns-Decides, conns_of-agrees, conns_of-has}
use Rattle.np_kinds.proofs.PairLemmas.{between_pods-pair_allows, pair_allows-alone}
use Rattle.np_table.proofs.RowLemmas.{HasKey, filter-by, filter-flat_map, filter-map_none, pair_rows-key, range-none, range-only}
use Rattle.np_table.proofs.SetLemmas.{rows_of_both-same}
use Rattle.np_kinds.specs.Prelude.{between_pods, pair_allows}
use Rattle.np_table.proofs.PlaceLemmas.{names-are}

-- ---- sets without ports

-- no port is in ranges that are none
holds-none : (ranges : List (Range ℕ)) (port : ℕ) → has_no_range ranges ≡ true → holds (λ p. p) ranges port ≡ false
holds-none [] port none = refl
holds-none (range ∷ ranges) port none = absurd (false≢true none)

-- nor in a set without ranges of any protocol
pub has_spot-nothing : (conns : Conns) (spot : PortSpot) → is_nothing conns ≡ true → has_spot conns spot ≡ false
has_spot-nothing conns spot nothing =
    let both = and_parts (has_no_range conns.tcp && has_no_range conns.udp) (has_no_range conns.sctp) nothing in
    let parts = and_parts (has_no_range conns.tcp) (has_no_range conns.udp) both.0 in
    elim spot.proto as (λ proto. holds (λ p. p) (ranges_of conns proto) spot.port ≡ false) [
      | Tcp ↦ holds-none conns.tcp spot.port parts.0
      | Udp ↦ holds-none conns.udp spot.port parts.1
      | Sctp ↦ holds-none conns.sctp spot.port both.1
    ]

-- the connections of a test by which no port passes are such a set
conns_of-nothing : (passes : PortSpot → Bool) → ((spot : PortSpot) → passes spot ≡ false) → is_nothing (conns_of passes) ≡ true
conns_of-nothing passes nothing =
    let none : (proto : Proto) → spans_of passes proto ≡ [] = λ proto. sym
    (runs-by_members (λ port. passes (record { proto = proto; port = port })) [] tt (λ port _ _. sym (nothing (record { proto = proto; port = port })))) in
    and_from _ _ (and_from _ _ (ap has_no_range (none Tcp)) (ap has_no_range (none Udp))) (ap has_no_range (none Sctp))

-- ---- rows of no ports

row_if-nothing : (key : RowKey) (mark : Option Family) (conns : Conns) → is_nothing conns ≡ true → row_if key mark conns ≡ []
row_if-nothing key mark conns nothing = rw nothing refl

rows_of_both-nothing : (key : RowKey) (four six : Conns) → is_nothing four ≡ true → is_nothing six ≡ true → rows_of_both key four six ≡ []
rows_of_both-nothing key four six no_four no_six = by (are_same_conns four six)
  where
    by : (same : Bool) → (if same then row_if key None four else row_if key (Some Four) four ++ row_if key (Some Six) six) ≡ []
    by true = row_if-nothing key None four no_four
    by false = ap (λ (rows : List Row). rows ++ row_if key (Some Six) six) (row_if-nothing key (Some Four) four no_four) ∙ row_if-nothing key (Some Six) six no_six

-- there is no row where no port passes in any family
rows_in-nothing : (families : List Family) (key : RowKey) (conns : Family → Conns) → ((family : Family) → is_nothing (conns family) ≡ true) → rows_in families key conns ≡ []
rows_in-nothing [] key conns nothing = rows_of_both-nothing key (conns Four) (conns Six) (nothing Four) (nothing Six)
rows_in-nothing (family ∷ []) key conns nothing = row_if-nothing key None (conns family) (nothing family)
rows_in-nothing (family ∷ next ∷ families) key conns nothing = rows_of_both-nothing key (conns Four) (conns Six) (nothing Four) (nothing Six)

-- ---- what rows say

-- a row says what its set has, in the families that its mark speaks of
allows_in-row_if : (key : RowKey) (mark : Option Family) (conns : Conns) (family : Family) (spot : PortSpot) →
    allows_in (row_if key mark conns) family spot ≡ (speaks_of mark family && has_spot conns spot)
allows_in-row_if key mark conns family spot = by (is_nothing conns) refl
  where
    by : (nothing : Bool) → is_nothing conns ≡ nothing →
        allows_in (if nothing then [] else record { key = key; family = mark; conns = conns } ∷ []) family spot ≡ (speaks_of mark family && has_spot conns spot)
    by true is = sym (and_right (speaks_of mark family) (has_spot conns spot) (has_spot-nothing conns spot is))
    by false is = or-false (speaks_of mark family && has_spot conns spot)

-- the two rows of both families say in each what its set has
allows_in-each : (key : RowKey) (conns : Family → Conns) (family : Family) (spot : PortSpot) →
    allows_in (row_if key (Some Four) (conns Four) ++ row_if key (Some Six) (conns Six)) family spot ≡ has_spot (conns family) spot
allows_in-each key conns family spot =
    list_any-append (says family spot) (row_if key (Some Four) (conns Four)) (row_if key (Some Six) (conns Six))
    ∙ ap (λ (said : Bool). said || allows_in (row_if key (Some Six) (conns Six)) family spot) (allows_in-row_if key (Some Four) (conns Four) family spot)
    ∙ ap (λ (said : Bool). (speaks_of (Some Four) family && has_spot (conns Four) spot) || said) (allows_in-row_if key (Some Six) (conns Six) family spot)
    ∙ own family
  where
    own : (one : Family) → ((speaks_of (Some Four) one && has_spot (conns Four) spot) || (speaks_of (Some Six) one && has_spot (conns Six) spot)) ≡ has_spot (conns one) spot
    own Four = or-false (has_spot (conns Four) spot)
    own Six = refl

-- and so does one row where the sets are equal
allows_in-one : (key : RowKey) (conns : Family → Conns) (family : Family) (spot : PortSpot) → conns Four ≡ conns Six →
    allows_in (row_if key None (conns Four)) family spot ≡ has_spot (conns family) spot
allows_in-one key conns family spot same = allows_in-row_if key None (conns Four) family spot ∙ own family
  where
    own : (one : Family) → has_spot (conns Four) spot ≡ has_spot (conns one) spot
    own Four = refl
    own Six = ap (λ (set : Conns). has_spot set spot) same

allows_in-rows_of_both : (key : RowKey) (conns : Family → Conns) (family : Family) (spot : PortSpot) → allows_in (rows_of_both key (conns Four) (conns Six)) family spot ≡ has_spot (conns family) spot
allows_in-rows_of_both key conns family spot = by (are_same_conns (conns Four) (conns Six)) refl
  where
    by : (same : Bool) → are_same_conns (conns Four) (conns Six) ≡ same →
        allows_in (if same then row_if key None (conns Four) else row_if key (Some Four) (conns Four) ++ row_if key (Some Six) (conns Six)) family spot ≡ has_spot (conns family) spot
    by true is = allows_in-one key conns family spot ((are_same_conns-Decides (conns Four) (conns Six)).0 is)
    by false is = allows_in-each key conns family spot

-- ---- the families of a table

only_one : (one family : Family) → Contains (one ∷ []) family → one ≡ family
only_one one family has = All-contains (λ (other : Family). one ≡ other) (one ∷ []) family (All-cons (λ (other : Family). one ≡ other) one [] refl (All-nil (λ (other : Family). one ≡ other))) has

none_in_nothing : (family : Family) → Contains [] family → ⊥
none_in_nothing family has = omega (arith, has.1)

-- in each family of the table its rows say what the set of the family has
allows_in-rows_in : (families : List Family) (key : RowKey) (conns : Family → Conns) (family : Family) (spot : PortSpot) → Contains families family →
    allows_in (rows_in families key conns) family spot ≡ has_spot (conns family) spot
allows_in-rows_in [] key conns family spot has = absurd (none_in_nothing family has)
allows_in-rows_in (one ∷ []) key conns family spot has =
    allows_in-row_if key None (conns one) family spot ∙ ap (λ (own : Family). has_spot (conns own) spot) (only_one one family has)
allows_in-rows_in (one ∷ next ∷ families) key conns family spot has = allows_in-rows_of_both key conns family spot

-- a table of both families has the rows of both
rows_in-each : (families : List Family) (key : RowKey) (conns : Family → Conns) → Contains families Four → Contains families Six →
    rows_in families key conns ≡ rows_of_both key (conns Four) (conns Six)
rows_in-each [] key conns four six = refl
rows_in-each (one ∷ []) key conns four six = let is_four = only_one one Four four in let is_six = only_one one Six six in absurd (cc)
rows_in-each (one ∷ next ∷ families) key conns four six = refl

-- ---- the rows of a table

-- the rows of a pair say what passes
pub allows_in-pair_rows : (table : Table) (source destination : ℕ) (family : Family) (spot : PortSpot) → Contains table.families family → is_spot spot ≡ true →
    allows_in (pair_rows table source destination) family spot ≡ table.pairs source destination family spot
unfolding pair_rows
allows_in-pair_rows table source destination family spot has is =
    allows_in-rows_in table.families (pair_key source destination) (λ family. conns_of (table.pairs source destination family)) family spot has
    ∙ conns_of-has (table.pairs source destination family) spot is

-- there is none where no port passes in any family
pub pair_rows-nothing : (table : Table) (source destination : ℕ) → ((family : Family) (spot : PortSpot) → table.pairs source destination family spot ≡ false) → pair_rows table source destination ≡ []
unfolding pair_rows
pair_rows-nothing table source destination nothing =
    rows_in-nothing table.families (pair_key source destination) (λ family. conns_of (table.pairs source destination family))
    (λ family. conns_of-nothing (table.pairs source destination family) (nothing family))

-- ---- rows without marks

-- the connections of two tests are the same exactly where the same ports pass
pub are_same_conns-ports : (four six : PortSpot → Bool) → (are_same_conns (conns_of four) (conns_of six) ≡ true) ↔ AllowSamePorts four six
are_same_conns-ports four six =
    let test = are_same_conns-Decides (conns_of four) (conns_of six) in (
      λ same. λ spot is. sym (conns_of-has four spot is) ∙ ap (λ (conns : Conns). has_spot conns spot) (test.0 same) ∙ conns_of-has six spot is,
      λ alike. test.1 (conns_of-agrees four six alike),
    )

-- rows without marks say the same of both families
allows_in-unmarked : (rows : List Row) (spot : PortSpot) → All IsUnmarked rows → allows_in rows Four spot ≡ allows_in rows Six spot
allows_in-unmarked [] spot unmarked = refl
allows_in-unmarked (row ∷ rows) spot unmarked =
    let mark : row.family ≡ None = All-head IsUnmarked row rows unmarked in
    ap (λ (said : Bool). said || allows_in rows Four spot)
    (ap (λ (one : Option Family). speaks_of one Four && has_spot row.conns spot) mark ∙ sym (ap (λ (one : Option Family). speaks_of one Six && has_spot row.conns spot) mark))
    ∙ ap (λ (said : Bool). says Six spot row || said) (allows_in-unmarked rows spot (All-tail IsUnmarked row rows unmarked))

row_if-unmarked : (key : RowKey) (conns : Conns) → All IsUnmarked (row_if key None conns)
row_if-unmarked key conns = by (is_nothing conns)
  where
    by : (nothing : Bool) → All {X = Row} IsUnmarked (if nothing then [] else record { key = key; family = None; conns = conns } ∷ [])
    by true = All-nil IsUnmarked
    by false = All-cons IsUnmarked (record { key = key; family = None; conns = conns }) [] refl (All-nil IsUnmarked)

pub row_if-one : (key : RowKey) (mark : Option Family) (conns : Conns) → length (row_if key mark conns) ≤ 1
row_if-one key mark conns = by (is_nothing conns)
  where
    by : (nothing : Bool) → length {A = Row} (if nothing then [] else record { key = key; family = mark; conns = conns } ∷ []) ≤ 1
    by true = omega arith
    by false = omega arith

-- where the same ports pass in both families of a table, there is the row of one
pub pair_rows-same : (table : Table) (source destination : ℕ) → Contains table.families Four → Contains table.families Six →
    AllowSamePorts (table.pairs source destination Four) (table.pairs source destination Six) →
    pair_rows table source destination ≡ row_if (pair_key source destination) None (conns_of (table.pairs source destination Four))
unfolding pair_rows
pair_rows-same table source destination four six same =
    rows_in-each table.families (pair_key source destination) (λ family. conns_of (table.pairs source destination family)) four six
    ∙ rows_of_both-same (pair_key source destination) (conns_of (table.pairs source destination Four)) (conns_of (table.pairs source destination Six))
    (conns_of-agrees (table.pairs source destination Four) (table.pairs source destination Six) same)

-- no row has a mark exactly there
pub pair_rows-unmarked : (table : Table) (source destination : ℕ) → Contains table.families Four → Contains table.families Six →
    All IsUnmarked (pair_rows table source destination) ↔ AllowSamePorts (table.pairs source destination Four) (table.pairs source destination Six)
pair_rows-unmarked table source destination four six = (
  λ unmarked. λ spot is. sym (allows_in-pair_rows table source destination Four spot four is) ∙ allows_in-unmarked (pair_rows table source destination) spot unmarked
      ∙ allows_in-pair_rows table source destination Six spot six is,
  λ same. All-same IsUnmarked (pair_rows table source destination) (row_if (pair_key source destination) None (conns_of (table.pairs source destination Four)))
      (pair_rows-same table source destination four six same) (row_if-unmarked (pair_key source destination) (conns_of (table.pairs source destination Four))),
)

-- and then there is one row at most
pub pair_rows-one_row : (table : Table) (source destination : ℕ) → Contains table.families Four → Contains table.families Six →
    AllowSamePorts (table.pairs source destination Four) (table.pairs source destination Six) → length (pair_rows table source destination) ≤ 1
pair_rows-one_row table source destination four six same =
    rw (pair_rows-same table source destination four six same) (row_if-one (pair_key source destination) None (conns_of (table.pairs source destination Four)))

-- ---- the rows of a pair among all rows

rows_between-pair : (table : Table) (source destination near far : ℕ) →
    rows_between source destination (pair_rows table near far) ≡ (if near == source && far == destination then pair_rows table near far else [])
rows_between-pair table source destination near far =
    filter-by (is_between source destination) (near == source && far == destination) (pair_rows table near far)
    (All-weaker (HasKey (pair_key near far)) (λ (row : Row). is_between source destination row ≡ (near == source && far == destination))
    (λ row has. ap (λ (key : RowKey). is_workload source key.source && is_workload destination key.destination) has) (pair_rows table near far) (pair_rows-key table near far))

rows_between-other_source : (table : Table) (source destination near : ℕ) → near ≢ source → rows_between source destination (flat_map (pair_rows table near) (workloads table)) ≡ []
rows_between-other_source table source destination near apart =
    filter-flat_map (is_between source destination) (pair_rows table near) (workloads table)
    ∙ range-none (λ far. rows_between source destination (pair_rows table near far)) 0 (length table.names)
    (λ far _. rows_between-pair table source destination near far ∙ rw (ne_eqb near source apart) refl)

rows_between-own_source : (table : Table) (source destination : ℕ) → destination < length table.names →
    rows_between source destination (flat_map (pair_rows table source) (workloads table)) ≡ pair_rows table source destination
rows_between-own_source table source destination within =
    filter-flat_map (is_between source destination) (pair_rows table source) (workloads table)
    ∙ range-only (λ far. rows_between source destination (pair_rows table source far)) 0 (length table.names) destination (omega arith) (omega arith)
    (λ far apart. rows_between-pair table source destination source far ∙ rw (ne_eqb far destination apart, eq-eqb source source refl) refl)
    ∙ rows_between-pair table source destination source destination
    ∙ rw (eq-eqb source source refl, eq-eqb destination destination refl) refl

rows_between-pairs : (table : Table) (source destination : ℕ) → source < length table.names → destination < length table.names →
    rows_between source destination (all_pair_rows table) ≡ pair_rows table source destination
unfolding all_pair_rows
rows_between-pairs table source destination source_in destination_in =
    filter-flat_map (is_between source destination) (λ near. flat_map (pair_rows table near) (workloads table)) (workloads table)
    ∙ range-only (λ near. rows_between source destination (flat_map (pair_rows table near) (workloads table))) 0 (length table.names) source (omega arith) (omega arith)
    (λ near apart. rows_between-other_source table source destination near apart)
    ∙ rows_between-own_source table source destination destination_in

-- rows of addresses are between no two workloads
rows_between-towards : (table : Table) (source destination workload : ℕ) (direction : Direction) → rows_between source destination (rows_towards table workload direction) ≡ []
rows_between-towards table source destination workload Ingress =
    filter-map_none (is_between source destination) (row_of workload Ingress) (address_rows table workload Ingress) (λ row. refl)
rows_between-towards table source destination workload Egress =
    filter-map_none (is_between source destination) (row_of workload Egress) (address_rows table workload Egress) (λ row. and_right (workload == source) false refl)

rows_between-addresses : (table : Table) (source destination : ℕ) → rows_between source destination (all_address_rows table) ≡ []
unfolding all_address_rows
rows_between-addresses table source destination =
    filter-flat_map (is_between source destination) (λ workload. rows_towards table workload Ingress ++ rows_towards table workload Egress) (workloads table)
    ∙ range-none (λ workload. rows_between source destination (rows_towards table workload Ingress ++ rows_towards table workload Egress)) 0 (length table.names) (λ workload _.
    filter-append (is_between source destination) (rows_towards table workload Ingress) (rows_towards table workload Egress)
    ∙ ap (λ (rows : List Row). rows ++ rows_between source destination (rows_towards table workload Egress)) (rows_between-towards table source destination workload Ingress)
    ∙ rows_between-towards table source destination workload Egress)

-- the rows of the table from one workload to another are the rows of the pair
pub rows_between-all : (table : Table) (source destination : ℕ) → source < length table.names → destination < length table.names →
    rows_between source destination (all_rows table) ≡ pair_rows table source destination
rows_between-all table source destination source_in destination_in =
    filter-append (is_between source destination) (all_pair_rows table) (all_address_rows table)
    ∙ ap (λ (rows : List Row). rows ++ rows_between source destination (all_address_rows table)) (rows_between-pairs table source destination source_in destination_in)
    ∙ ap (λ (rows : List Row). pair_rows table source destination ++ rows) (rows_between-addresses table source destination)
    ∙ append-nil (pair_rows table source destination)

-- ---- the rows of an estate

-- a workload of one pod has no row with itself
pub pair_rows-alone : (lists : EstateLists) (folding : Folding) (source : ℕ) → length (members_of folding source) ≡ 1 → pair_rows (table_of lists folding) source source ≡ []
unfolding table_of
pair_rows-alone lists folding source one =
    let alone = and_from (source == source) (length (members_of folding source) == 1) (eq-eqb source source refl) (eq-eqb (length (members_of folding source)) 1 one) in
    pair_rows-nothing (table_of lists folding) source source (λ family spot. pair_allows-alone lists folding source source family spot alone)

-- the number of a pod's workload is one of the table
pub number-within : (lists : EstateLists) (place : ℕ) → place < length lists.pods → workload_number lists place < length (table_of lists (folding_of lists)).names
unfolding folding_of
number-within lists place within = rw (names-are lists (folding_of lists)) (number-in_workloads lists place within)

-- the rows of a pair of an estate say what passes between its workloads
allows_in-estate : (lists : EstateLists) (folding : Folding) (source destination : ℕ) (family : Family) (spot : PortSpot) → Contains (families_of lists.pods) family → is_spot spot ≡ true →
    allows_in (pair_rows (table_of lists folding) source destination) family spot ≡ pair_allows lists folding source destination family spot
unfolding table_of
allows_in-estate lists folding source destination family spot has is = allows_in-pair_rows (table_of lists folding) source destination family spot has is

-- the rows of the workloads of two different pods say what passes between the pods
pub allows_in-pods : (lists : EstateLists) (p q : ℕ) (family : Family) (spot : PortSpot) → IsLawful lists → p < length lists.pods → q < length lists.pods → p ≢ q →
    Contains (families_of lists.pods) family → is_spot spot ≡ true →
    allows_in (rows_between (workload_number lists p) (workload_number lists q) (all_rows (table_of lists (folding_of lists)))) family spot ≡ between_pods lists p q family spot
allows_in-pods lists p q family spot lawful p_in q_in differ has is =
    ap (λ (rows : List Row). allows_in rows family spot) (rows_between-all (table_of lists (folding_of lists)) (workload_number lists p) (workload_number lists q) (number-within lists p p_in)
    (number-within lists q q_in))
    ∙ allows_in-estate lists (folding_of lists) (workload_number lists p) (workload_number lists q) family spot has is
    ∙ sym (between_pods-pair_allows lists p q family spot lawful p_in q_in differ)
