-- The rows of a cluster, and what they say. For `ingress_rows_say_what_passes`, `other_rows_stay` and crates above.
use Rattle.std.proofs.Common.{◌≡◌, ◌≢◌, ◌<◌, ◌≤◌, ℕ, List, [], ◌∷◌, ◌++◌, Bool, true, false, ◌&&◌, Option, None, flat_map, length, append-nil, eq-eqb, arith, refl, sym, ap, subst, ◌∙◌, if◌then◌else◌}
use Rattle.std.specs.Prelude.{filter}
use Rattle.std.proofs.lemmas.Bool.{and_parts, false≢true, ne_eqb}
use Rattle.std.proofs.lemmas.List.{length-map}
use Rattle.std.proofs.lemmas.List.Elements.{All-weaker, filter-append, filter_passes}
use Rattle.std.proofs.Math.Bool.{or-false}
use Rattle.np_routes.specs.Prelude.{ClusterTable, Controller, Egress, EstateLists, Family, Ingress, PortSpot, Row, RowEnd, RowKey, Span, Work, all_ingress_rows, cluster_rows, cluster_table, ingress_allows, ingress_key, ingress_reaches, ingress_row, is_controller, is_from_controller, is_ingress_controller, rows_from_controller, sender_of}
use Rattle.np_conns.specs.Prelude.{Conns, conns_of, has_spot, is_spot}
use Rattle.np_model.specs.Prelude.{IsLawful}
use Rattle.np_fold.specs.Prelude.{folding_of, workload_number}
use Rattle.np_model.specs.declared.direction.Direction.{Direction}
use Rattle.np_routes.proofs.ReachedLemmas.{number-workload, reaches-allows}
use Rattle.np_table.proofs.RowLemmas.{HasKey, filter-by, filter-flat_map, filter-map_none, filter-swap, is_workload-end, pair_rows-key, range-none, range-only}
use Rattle.np_conns.proofs.ConnLemmas.{conns_of-has}
use Rattle.np_table.specs.Prelude.{Table, address_rows, all_address_rows, all_pair_rows, all_rows, allows_in, estate_table, is_between, is_nothing, is_of_address, is_workload, pair_key, pair_rows, row_if, row_of, rows_between, rows_of_address, rows_towards, table_of, workloads}
use Rattle.np_kinds.specs.Prelude.{IsWorkload, number_of_workloads}
use Rattle.np_table.proofs.SaidLemmas.{has_spot-nothing, row_if-one}
use Rattle.np_table.proofs.PlaceLemmas.{names-are}

-- ---- a row from the controller

-- a test that no row of these ends passes keeps none of a row
row_if-none : (test : Row → Bool) (key : RowKey) (conns : Conns) → test (record { key = key; family = None; conns = conns }) ≡ false → filter test (row_if key None conns) ≡ []
row_if-none test key conns fails = by (is_nothing conns)
  where
    by : (nothing : Bool) → filter test (if nothing then [] else record { key = key; family = None; conns = conns } ∷ []) ≡ []
    by true = refl
    by false = rw fails refl

-- and one that they pass keeps it
row_if-kept : (test : Row → Bool) (key : RowKey) (conns : Conns) → test (record { key = key; family = None; conns = conns }) ≡ true → filter test (row_if key None conns) ≡ row_if key None conns
row_if-kept test key conns passes = by (is_nothing conns)
  where
    by : (nothing : Bool) →
        filter {X = Row} test (if nothing then [] else record { key = key; family = None; conns = conns } ∷ []) ≡ (if nothing then [] else record { key = key; family = None; conns = conns } ∷ [])
    by true = refl
    by false = rw passes refl

-- rows of ingresses of which a test keeps none
ingress_rows-none : (test : Row → Bool) (cluster : ClusterTable) → ((workload : ℕ) (conns : Conns) → test (record { key = ingress_key workload; family = None; conns = conns }) ≡ false) →
    filter test (all_ingress_rows cluster) ≡ []
unfolding all_ingress_rows ingress_row
ingress_rows-none test cluster fails =
    filter-flat_map test (ingress_row cluster) (workloads cluster.table)
    ∙ range-none (λ workload. filter test (ingress_row cluster workload)) 0 (length cluster.table.names)
    (λ workload _. row_if-none test (ingress_key workload) (conns_of (cluster.ingresses workload)) (fails workload (conns_of (cluster.ingresses workload))))

-- so the test keeps those of the table alone
cluster-others : (test : Row → Bool) (cluster : ClusterTable) → ((workload : ℕ) (conns : Conns) → test (record { key = ingress_key workload; family = None; conns = conns }) ≡ false) →
    filter test (cluster_rows cluster) ≡ filter test (all_rows cluster.table)
cluster-others test cluster fails =
    filter-append test (all_rows cluster.table) (all_ingress_rows cluster)
    ∙ ap (λ (rows : List Row). filter test (all_rows cluster.table) ++ rows) (ingress_rows-none test cluster fails)
    ∙ append-nil (filter test (all_rows cluster.table))

-- ---- the rows of the table

-- the rows between two workloads are those of the table
pub rows_between-cluster : (cluster : ClusterTable) (source destination : ℕ) → rows_between source destination (cluster_rows cluster) ≡ rows_between source destination (all_rows cluster.table)
rows_between-cluster cluster source destination = cluster-others (is_between source destination) cluster (λ workload conns. refl)

-- and so are those of an address
pub rows_of_address-cluster : (cluster : ClusterTable) (workload : ℕ) (direction : Direction) (family : Family) (number : ℕ) →
    rows_of_address workload direction family number (cluster_rows cluster) ≡ rows_of_address workload direction family number (all_rows cluster.table)
rows_of_address-cluster cluster workload Ingress family number = cluster-others (is_of_address workload Ingress family number) cluster (λ other conns. refl)
rows_of_address-cluster cluster workload Egress family number = cluster-others (is_of_address workload Egress family number) cluster (λ other conns. refl)

-- ---- the rows from the controller

-- none of a pair of workloads
pairs-none : (workload : ℕ) (table : Table) (source destination : ℕ) → rows_from_controller workload (pair_rows table source destination) ≡ []
pairs-none workload table source destination =
    filter-by (is_from_controller workload) false (pair_rows table source destination)
    (All-weaker (HasKey (pair_key source destination)) (λ row. is_from_controller workload row ≡ false)
    (λ row is. ap (λ (key : RowKey). is_ingress_controller key.source && is_workload workload key.destination) is) (pair_rows table source destination) (pair_rows-key table source destination))

all_pairs-none : (workload : ℕ) (table : Table) → rows_from_controller workload (all_pair_rows table) ≡ []
unfolding all_pair_rows
all_pairs-none workload table =
    filter-flat_map (is_from_controller workload) (λ source. flat_map (pair_rows table source) (workloads table)) (workloads table)
    ∙ range-none (λ source. rows_from_controller workload (flat_map (pair_rows table source) (workloads table))) 0 (length table.names) (λ source _.
    filter-flat_map (is_from_controller workload) (pair_rows table source) (workloads table)
    ∙ range-none (λ destination. rows_from_controller workload (pair_rows table source destination)) 0 (length table.names) (λ destination _. pairs-none workload table source destination))

-- and none of an address
towards-none : (workload : ℕ) (table : Table) (other : ℕ) (direction : Direction) → rows_from_controller workload (rows_towards table other direction) ≡ []
towards-none workload table other Ingress = filter-map_none (is_from_controller workload) (row_of other Ingress) (address_rows table other Ingress) (λ row. refl)
towards-none workload table other Egress = filter-map_none (is_from_controller workload) (row_of other Egress) (address_rows table other Egress) (λ row. refl)

all_addresses-none : (workload : ℕ) (table : Table) → rows_from_controller workload (all_address_rows table) ≡ []
unfolding all_address_rows
all_addresses-none workload table =
    filter-flat_map (is_from_controller workload) (λ other. rows_towards table other Ingress ++ rows_towards table other Egress) (workloads table)
    ∙ range-none (λ other. rows_from_controller workload (rows_towards table other Ingress ++ rows_towards table other Egress)) 0 (length table.names) (λ other _.
    filter-append (is_from_controller workload) (rows_towards table other Ingress) (rows_towards table other Egress)
    ∙ ap (λ (rows : List Row). rows ++ rows_from_controller workload (rows_towards table other Egress)) (towards-none workload table other Ingress)
    ∙ towards-none workload table other Egress)

-- a row from the controller is to its own workload
own_row : (workload : ℕ) (cluster : ClusterTable) → rows_from_controller workload (ingress_row cluster workload) ≡ ingress_row cluster workload
unfolding ingress_row
own_row workload cluster = row_if-kept (is_from_controller workload) (ingress_key workload) (conns_of (cluster.ingresses workload)) (eq-eqb workload workload refl)

other_row : (workload other : ℕ) (cluster : ClusterTable) → other ≢ workload → rows_from_controller workload (ingress_row cluster other) ≡ []
unfolding ingress_row
other_row workload other cluster apart = row_if-none (is_from_controller workload) (ingress_key other) (conns_of (cluster.ingresses other)) (ne_eqb other workload apart)

ingresses-own : (workload : ℕ) (cluster : ClusterTable) → workload < length cluster.table.names → rows_from_controller workload (all_ingress_rows cluster) ≡ ingress_row cluster workload
unfolding all_ingress_rows
ingresses-own workload cluster within =
    filter-flat_map (is_from_controller workload) (ingress_row cluster) (workloads cluster.table)
    ∙ range-only (λ other. rows_from_controller workload (ingress_row cluster other)) 0 (length cluster.table.names) workload (omega arith) (omega arith)
    (λ other apart. other_row workload other cluster apart)
    ∙ own_row workload cluster

-- the rows of a cluster from the controller to a workload are the row of the workload
pub rows_from_controller-cluster : (cluster : ClusterTable) (workload : ℕ) → workload < length cluster.table.names → rows_from_controller workload (cluster_rows cluster) ≡ ingress_row cluster workload
rows_from_controller-cluster cluster workload within =
    let test = is_from_controller workload in
    let table = cluster.table in
    filter-append test (all_rows table) (all_ingress_rows cluster)
    ∙ ap (λ (rows : List Row). rows ++ rows_from_controller workload (all_ingress_rows cluster))
    (filter-append test (all_pair_rows table) (all_address_rows table) ∙ ap (λ (rows : List Row). rows ++ rows_from_controller workload (all_address_rows table)) (all_pairs-none workload table)
    ∙ all_addresses-none workload table)
    ∙ ingresses-own workload cluster within

-- ---- what they say

row_if-says : (key : RowKey) (conns : Conns) (family : Family) (spot : PortSpot) → allows_in (row_if key None conns) family spot ≡ has_spot conns spot
row_if-says key conns family spot = by (is_nothing conns) refl
  where
    by : (nothing : Bool) → is_nothing conns ≡ nothing → allows_in (if nothing then [] else record { key = key; family = None; conns = conns } ∷ []) family spot ≡ has_spot conns spot
    by true is = sym (has_spot-nothing conns spot is)
    by false is = or-false (has_spot conns spot)

ingress_row-says : (cluster : ClusterTable) (workload : ℕ) (family : Family) (spot : PortSpot) → is_spot spot ≡ true →
    allows_in (ingress_row cluster workload) family spot ≡ cluster.ingresses workload spot
unfolding ingress_row
ingress_row-says cluster workload family spot is = row_if-says (ingress_key workload) (conns_of (cluster.ingresses workload)) family spot ∙ conns_of-has (cluster.ingresses workload) spot is

pub ingress_row-one : (cluster : ClusterTable) (workload : ℕ) → length (ingress_row cluster workload) ≤ 1
unfolding ingress_row
ingress_row-one cluster workload = row_if-one (ingress_key workload) None (conns_of (cluster.ingresses workload))

-- the rows from the controller to a workload say what is reached of it
pub allows_in-cluster : (cluster : ClusterTable) (workload : ℕ) (family : Family) (spot : PortSpot) → workload < length cluster.table.names → is_spot spot ≡ true →
    allows_in (rows_from_controller workload (cluster_rows cluster)) family spot ≡ cluster.ingresses workload spot
allows_in-cluster cluster workload family spot within is =
    ap (λ (rows : List Row). allows_in rows family spot) (rows_from_controller-cluster cluster workload within) ∙ ingress_row-says cluster workload family spot is

-- and there is one at most
pub rows_from_controller-one : (cluster : ClusterTable) (workload : ℕ) → workload < length cluster.table.names → length (rows_from_controller workload (cluster_rows cluster)) ≤ 1
rows_from_controller-one cluster workload within =
    subst (λ (rows : List Row). length rows ≤ 1) (sym (rows_from_controller-cluster cluster workload within)) (ingress_row-one cluster workload)

-- ---- the cluster of an estate

pub cluster-names : (lists : EstateLists) (controller : Option ℕ) → length (cluster_table lists controller).table.names ≡ number_of_workloads lists
unfolding cluster_table
cluster-names lists controller = names-are lists (folding_of lists)

cluster-allows : (lists : EstateLists) (controller : Option ℕ) (workload : ℕ) (spot : PortSpot) →
    (cluster_table lists controller).ingresses workload spot ≡ ingress_allows lists (folding_of lists) controller workload spot
unfolding cluster_table
cluster-allows lists controller workload spot = refl

-- its rows say what is reached of a workload
pub allows_in-workloads : (lists : EstateLists) (controller : Option ℕ) (workload : ℕ) (family : Family) (spot : PortSpot) → IsWorkload lists workload → is_spot spot ≡ true →
    allows_in (rows_from_controller workload (cluster_rows (cluster_table lists controller))) family spot ≡ ingress_allows lists (folding_of lists) controller workload spot
allows_in-workloads lists controller workload family spot within is =
    allows_in-cluster (cluster_table lists controller) workload family spot (subst (λ (n : ℕ). workload < n) (sym (cluster-names lists controller)) within) is
    ∙ cluster-allows lists controller workload spot

-- and so of each pod of it
pub allows_in-pods : (lists : EstateLists) (controller : Option ℕ) (p : ℕ) (family : Family) (spot : PortSpot) → IsLawful lists → p < length lists.pods →
    is_controller controller (workload_number lists p) ≡ false → is_spot spot ≡ true →
    allows_in (rows_from_controller (workload_number lists p) (cluster_rows (cluster_table lists controller))) family spot ≡ ingress_reaches lists (sender_of (folding_of lists) controller) p spot
allows_in-pods lists controller p family spot lawful p_in other is =
    allows_in-workloads lists controller (workload_number lists p) family spot (number-workload lists p p_in) is ∙ sym (reaches-allows lists controller p spot lawful p_in other)

-- ---- rows of which a test of their ends keeps some

pub controller-end : (end : RowEnd) → is_ingress_controller end ≡ true → end ≡ Controller
controller-end Controller is = refl
controller-end (Work other) is = absurd (false≢true is)
controller-end (Span addresses) is = absurd (false≢true is)

from_controller-key : (workload : ℕ) (row : Row) → is_from_controller workload row ≡ true → row.key ≡ ingress_key workload
from_controller-key workload row is =
    let ends = and_parts (is_ingress_controller row.key.source) (is_workload workload row.key.destination) is in
    let from : RowEnd → RowKey = λ end. record { source = end; destination = row.key.destination } in
    let to : RowEnd → RowKey = λ end. record { source = Controller; destination = end } in
    ap from (controller-end row.key.source ends.0) ∙ ap to (is_workload-end workload row.key.destination ends.1)

-- it keeps all rows from the controller to a workload, or none
pub rows_from_controller-kept : (workload : ℕ) (keep : RowKey → Bool) (rows : List Row) →
    rows_from_controller workload (filter (λ (row : Row). keep row.key) rows) ≡ (if keep (ingress_key workload) then rows_from_controller workload rows else [])
rows_from_controller-kept workload keep rows =
    filter-swap (is_from_controller workload) (λ (row : Row). keep row.key) rows
    ∙ filter-by (λ (row : Row). keep row.key) (keep (ingress_key workload)) (rows_from_controller workload rows)
    (All-weaker (λ (row : Row). is_from_controller workload row ≡ true) (λ (row : Row). keep row.key ≡ keep (ingress_key workload))
    (λ row is. ap keep (from_controller-key workload row is)) (rows_from_controller workload rows) (filter_passes (is_from_controller workload) rows))

-- the table of an estate has a name for each workload
pub estate-names : (lists : EstateLists) → length (estate_table lists).names ≡ number_of_workloads lists
unfolding table_of
estate-names lists = length-map (folding_of lists).workloads (λ one. one.name)
