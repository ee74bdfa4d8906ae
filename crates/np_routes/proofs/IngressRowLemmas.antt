-- The rows of ingresses one after another. For `ClusterRows::next`, `ClusterRows::of` and `ingress_row`.
use Rattle.std.proofs.Common.{◌≡◌, ◌<◌, ◌≤◌, ◌+◌, ◌-◌, ◌*◌, ℕ, suc, List, [], ◌∷◌, ◌++◌, true, false, Option, Some, None, is_some, flat_map, length, arith, refl, sym, ap, subst, ◌∙◌}
use Rattle.std.specs.Prelude.{MatchOption}
use Rattle.std.specs.List.{range_with_len}
use Rattle.std.specs.Option.{option_to_list}
use Rattle.std.proofs.lemmas.Bool.{false_from_ne_true, true≢false}
use Rattle.np_conns.specs.Prelude.{Conns, IsConns, conns_of, has_spot}
use Rattle.np_routes.specs.Prelude.{ClusterTable, Egress, EstateLists, Ingress, PortSpot, Row, RowKey, all_ingress_rows, cluster_rows, cluster_table, ingress_allows, ingress_due, ingress_key, ingress_row, ingress_rows_from, ingress_steps}
use Rattle.np_fold.specs.Prelude.{folding_of}
use Rattle.np_routes.proofs.ClusterLemmas.{cluster-names}
use Rattle.np_table.proofs.KindLemmas.{rules-most}
use Rattle.np_table.proofs.SetLemmas.{row_if-none}
use Rattle.np_table.specs.Prelude.{all_rows, estate_table, is_nothing, most_rules, row_if}
use Rattle.np_kinds.specs.Prelude.{IsWorkload, number_of_workloads}
use Rattle.np_table.proofs.SaidLemmas.{has_spot-nothing}

-- ---- the rows from a workload on

-- from the first on they are all
pub ingress_rows-start : (cluster : ClusterTable) → ingress_rows_from cluster 0 ≡ all_ingress_rows cluster
unfolding ingress_rows_from all_ingress_rows
ingress_rows-start cluster = ap (λ (n : ℕ). flat_map (ingress_row cluster) (range_with_len 0 n)) (let same : length cluster.table.names - 0 ≡ length cluster.table.names = omega arith in same)

cluster-table : (lists : EstateLists) (controller : Option ℕ) → (cluster_table lists controller).table ≡ estate_table lists
unfolding cluster_table
cluster-table lists controller = refl

-- behind the rows of the table they make those of the cluster
pub cluster_rows-start : (lists lists' : EstateLists) (controller controller' : Option ℕ) (rows : List Row) → lists' ≡ lists → controller' ≡ controller → rows ≡ all_rows (estate_table lists) →
    rows ++ ingress_rows_from (cluster_table lists' controller') 0 ≡ cluster_rows (cluster_table lists controller)
cluster_rows-start lists lists' controller controller' rows same same' is =
    ap (λ (l : EstateLists). rows ++ ingress_rows_from (cluster_table l controller') 0) same
    ∙ ap (λ (number : Option ℕ). rows ++ ingress_rows_from (cluster_table lists number) 0) same'
    ∙ ap (λ (more : List Row). rows ++ more) (ingress_rows-start (cluster_table lists controller))
    ∙ ap (λ (all : List Row). all ++ all_ingress_rows (cluster_table lists controller)) (is ∙ ap all_rows (sym (cluster-table lists controller)))

-- from a workload on they are its own and those from the next on
ingress_rows-step : (cluster : ClusterTable) (workload : ℕ) → workload < length cluster.table.names →
    ingress_rows_from cluster workload ≡ ingress_row cluster workload ++ ingress_rows_from cluster (workload + 1)
unfolding ingress_rows_from
ingress_rows-step cluster workload within =
    ap (λ (n : ℕ). flat_map (ingress_row cluster) (range_with_len workload n))
    (let same : length cluster.table.names - workload ≡ suc (length cluster.table.names - (workload + 1)) = omega (arith, within) in same)

-- and behind the last there are none
ingress_rows-end : (cluster : ClusterTable) (workload : ℕ) → length cluster.table.names ≤ workload → ingress_rows_from cluster workload ≡ []
unfolding ingress_rows_from
ingress_rows-end cluster workload behind = ap (λ (n : ℕ). flat_map (ingress_row cluster) (range_with_len workload n))
    (let same : length cluster.table.names - workload ≡ 0 = omega (arith, behind) in same)

-- ---- the rules that are due

-- for all workloads
pub ingress_due-start : (lists lists' : EstateLists) (due : ℕ) → lists' ≡ lists →
    due ≡ (4 * number_of_workloads lists * (folding_of lists).kind_count + 2 * number_of_workloads lists) * most_rules lists (folding_of lists) →
    due + ingress_due lists' 0 ≡ (4 * number_of_workloads lists * (folding_of lists).kind_count + 6 * number_of_workloads lists) * most_rules lists (folding_of lists)
unfolding ingress_due
ingress_due-start lists lists' due same is =
    let all : number_of_workloads lists - 0 ≡ number_of_workloads lists = omega arith in
    ap (λ (l : EstateLists). due + 4 * most_rules l (folding_of l) * (number_of_workloads l - 0)) same
    ∙ ap (λ (n : ℕ). n + 4 * most_rules lists (folding_of lists) * (number_of_workloads lists - 0)) is
    ∙ ap (λ (n : ℕ). (4 * number_of_workloads lists * (folding_of lists).kind_count + 2 * number_of_workloads lists) * most_rules lists (folding_of lists) + 4 * most_rules lists
    (folding_of lists) * n) all
    ∙ sum (number_of_workloads lists) (folding_of lists).kind_count (most_rules lists (folding_of lists))
  where
    sum : (count kinds most : ℕ) → (4 * count * kinds + 2 * count) * most + 4 * most * count ≡ (4 * count * kinds + 6 * count) * most
    sum count kinds most = omega arith

-- four times the most rules for each workload
ingress_due-step : (lists : EstateLists) (workload : ℕ) → IsWorkload lists workload → ingress_due lists workload ≡ ingress_due lists (workload + 1) + 4 * most_rules lists (folding_of lists)
unfolding ingress_due
ingress_due-step lists workload within =
    ap (λ (n : ℕ). 4 * most_rules lists (folding_of lists) * n) (let same : number_of_workloads lists - workload ≡ number_of_workloads lists - (workload + 1) + 1 = omega (arith, within) in same)
    ∙ spread (most_rules lists (folding_of lists)) (number_of_workloads lists - (workload + 1))
  where
    spread : (most n : ℕ) → 4 * most * (n + 1) ≡ 4 * most * n + 4 * most
    spread most n = omega arith

-- no more are looked at for one
steps-due : (lists : EstateLists) (controller : Option ℕ) (workload : ℕ) → ((number : ℕ) → controller ≡ Some number → IsWorkload lists number) → IsWorkload lists workload →
    ingress_steps lists controller workload ≤ 4 * most_rules lists (folding_of lists)
steps-due lists None workload controls within = omega (arith, rules-most lists (folding_of lists) Ingress workload within)
steps-due lists (Some controller) workload controls within = omega
    (arith, rules-most lists (folding_of lists) Egress controller (controls controller refl), rules-most lists (folding_of lists) Ingress workload within)

-- what is left of them where a workload's were looked at
pub due-next : (lists : EstateLists) (controller : Option ℕ) (workload old now new table : ℕ) → ((number : ℕ) → controller ≡ Some number → IsWorkload lists number) → IsWorkload lists workload →
    new ≤ now + ingress_steps lists controller workload → now + (table + ingress_due lists workload) ≤ old → new + (table + ingress_due lists (workload + 1)) ≤ old
due-next lists controller workload old now new table controls within steps held =
    omega (arith, steps, held, ingress_due-step lists workload within, steps-due lists controller workload controls within)

-- no more are looked at for one than are due
pub steps-within : (lists : EstateLists) (controller : Option ℕ) (workload old now new table : ℕ) → ((number : ℕ) → controller ≡ Some number → IsWorkload lists number) → IsWorkload lists workload →
    new ≤ now + ingress_steps lists controller workload → now + (table + ingress_due lists workload) ≤ old → new ≤ old
steps-within lists controller workload old now new table controls within steps held =
    omega (arith, due-next lists controller workload old now new table controls within steps held)

-- ---- one row

ingress_row-of : (lists : EstateLists) (controller : Option ℕ) (workload : ℕ) (conns : Conns) → conns ≡ conns_of (ingress_allows lists (folding_of lists) controller workload) →
    ingress_row (cluster_table lists controller) workload ≡ row_if (ingress_key workload) None conns
unfolding ingress_row cluster_table
ingress_row-of lists controller workload conns is = ap (row_if (ingress_key workload) None) (sym is)

-- there is none of a workload of which nothing is reached
pub ingress_row-none : (lists : EstateLists) (controller : Option ℕ) (workload : ℕ) (conns : Conns) → conns ≡ conns_of (ingress_allows lists (folding_of lists) controller workload) → IsConns conns →
    ((spot : PortSpot) → has_spot conns spot ≡ false) → [] ≡ ingress_row (cluster_table lists controller) workload
ingress_row-none lists controller workload conns is well none = sym (ingress_row-of lists controller workload conns is ∙ row_if-none (ingress_key workload) None conns well none)

some-row : (key : RowKey) (conns : Conns) → (spot : PortSpot) × (has_spot conns spot ≡ true) → row_if key None conns ≡ record { key = key; family = None; conns = conns } ∷ []
some-row key conns some =
    let filled = false_from_ne_true (is_nothing conns) (λ nothing. true≢false (sym some.1 ∙ has_spot-nothing conns some.0 nothing)) in
    rw filled refl

-- and else the row of the set
pub ingress_row-is : (lists : EstateLists) (controller : Option ℕ) (workload : ℕ) (conns : Conns) → conns ≡ conns_of (ingress_allows lists (folding_of lists) controller workload) →
    (spot : PortSpot) × (has_spot conns spot ≡ true) → record { key = ingress_key workload; family = None; conns = conns } ∷ [] ≡ ingress_row (cluster_table lists controller) workload
ingress_row-is lists controller workload conns is some = sym (ingress_row-of lists controller workload conns is ∙ some-row (ingress_key workload) conns some)

-- ---- the next row

-- a workload's row, where it has one, comes before those from the next workload on
pub row-next : (lists : EstateLists) (controller : Option ℕ) (workload : ℕ) (table whole : List Row) (given : Option Row) → IsWorkload lists workload → table ≡ [] →
    option_to_list given ≡ ingress_row (cluster_table lists controller) workload → table ++ ingress_rows_from (cluster_table lists controller) workload ≡ whole →
    option_to_list given ++ (table ++ ingress_rows_from (cluster_table lists controller) (workload + 1)) ≡ whole
row-next lists controller workload table whole given within ended is held =
    let cluster = cluster_table lists controller in
    let here : workload < length cluster.table.names = subst (λ (n : ℕ). workload < n) (sym (cluster-names lists controller)) within in
    ap (λ (rows : List Row). option_to_list given ++ (rows ++ ingress_rows_from cluster (workload + 1))) ended
    ∙ ap (λ (rows : List Row). rows ++ ingress_rows_from cluster (workload + 1)) is
    ∙ sym (ingress_rows-step cluster workload here)
    ∙ ap (λ (rows : List Row). rows ++ ingress_rows_from cluster workload) (sym ended)
    ∙ held

-- behind the last workload there is none
pub rows-ended : (lists : EstateLists) (controller : Option ℕ) (workload : ℕ) (table whole : List Row) → number_of_workloads lists ≤ workload → table ≡ [] →
    table ++ ingress_rows_from (cluster_table lists controller) workload ≡ whole → whole ≡ []
rows-ended lists controller workload table whole behind ended held =
    let cluster = cluster_table lists controller in
    sym held
    ∙ ap (λ (rows : List Row). rows ++ ingress_rows_from cluster workload) ended
    ∙ ingress_rows-end cluster workload (subst (λ (n : ℕ). n ≤ workload) (sym (cluster-names lists controller)) behind)

-- the row that is given
pub given-some : (given : Option Row) (old new : List Row) → is_some given ≡ true → option_to_list given ++ new ≡ old → MatchOption given (old ≡ []) (λ row. old ≡ row ∷ new)
given-some None old new some is = absurd (true≢false (sym some))
given-some (Some row) old new some is = sym is

-- no row comes before
pub given-none : (given : Option Row) (old new : List Row) → is_some given ≡ false → option_to_list given ++ new ≡ old → new ≡ old
given-none None old new none is = is
given-none (Some row) old new none is = absurd (true≢false none)
