-- What a report of `list` says, from what was written of it. For crates above.
use Rattle.std.proofs.Common.{◌≡◌, ◌<◌, ◌⊎◌, inl, inr, ℕ, List, [], ◌∷◌, length, Bool, true, false, not, ◌&&◌, Option, None, Some, Result, Ok, Err, refl, ap, sym, subst, ◌∙◌}
use Rattle.std.proofs.lemmas.Bool.{and_parts, false≢true}
use Rattle.std.proofs.lemmas.List.Elements.{All-filter, All-head, All-same, filter_passes}
use Rattle.std.proofs.lemmas.List.Kept.{AllPairs-filter}
use Rattle.np_command_list.specs.Prelude.{AddressSpan, ComesBefore, Controller, Direction, Egress, EstateLists, Family, Fault, FocusSide, Format, Ingress, IsRowOf, Listing, PortSpot, Query, RefusesList, Report, Row, RowEnd, RowKey, SayWhatPasses, SaysAddresses, SaysAll, SaysIngresses, SaysPods, Span, Work, controller_of, list_reply, listing, listing_of, listing_text, query_of}
use Rattle.np_args.specs.declared.focus_side.FocusSide.TheVariants.{Destination, Either, Source}
use Rattle.np_command.specs.Prelude.{SinkTrace, TookWhole, fault_in, lists_of, text_in}
use Rattle.np_command_list.proofs.EachRowLemmas.{cluster_rows-are}
use Rattle.np_command_list.proofs.NamedLemmas.{controller-named, controller-unknown, focus-named, focus-unknown}
use Rattle.np_command_list.proofs.OrderLemmas.{cluster-ordered}
use Rattle.np_fold.specs.Prelude.{folding_of, workload_number}
use Rattle.np_model.specs.Prelude.{IsLawful}
use Rattle.np_report.specs.Prelude.{keeps, list_text, names_of, report_text, shown_rows, texts_of}
use Rattle.np_report.specs.declared.query.Query.TheVariants as query
use Rattle.np_routes.proofs.ClusterLemmas.{allows_in-workloads, rows_between-cluster, rows_from_controller-kept, rows_of_address-cluster}
use Rattle.np_routes.proofs.ReachedLemmas.{number-workload, reaches-allows}
use Rattle.np_routes.specs.Prelude.{cluster_rows, cluster_table, ingress_allows, ingress_reaches, is_controller, rows_from_controller, sender_of}
use Rattle.np_table.proofs.AddressRowLemmas.{one_row-pods}
use Rattle.np_table.proofs.RowLemmas.{is_workload-end, rows_between-kept, rows_of_address-kept}
use Rattle.np_table.proofs.SaidLemmas.{allows_in-pods}
use Rattle.np_table.specs.Prelude.{Table, all_rows, allows_in, is_address, is_of_address, is_workload, key_of, rows_between, rows_of_address, table_of}
use Rattle.np_kinds.specs.Prelude.{source_pod}

-- the rows of an estate that a query asks for
abbrev rows_shown : EstateLists → Option ℕ → Query → List Row
rows_shown lists sender query = shown_rows (cluster_table lists sender) query

-- the table of pairs and addresses is part of that of the cluster
table_is : (lists : EstateLists) (controller : Option ℕ) → (cluster_table lists controller).table ≡ table_of lists (folding_of lists)
unfolding cluster_table
table_is lists controller = refl

-- ---- what rows say

says_pods : (lists : EstateLists) (sender : Option ℕ) (query : Query) → IsLawful lists → SaysPods lists query (rows_shown lists sender query)
says_pods lists sender query lawful = λ p q family spot first second apart among is kept.
    let cluster = cluster_table lists sender in
    let between : List Row → List Row = rows_between (workload_number lists p) (workload_number lists q) in
    let shown : between (rows_shown lists sender query) ≡ between (all_rows (table_of lists (folding_of lists))) =
    rows_between-kept (workload_number lists p) (workload_number lists q) (keeps query) (cluster_rows cluster) ∙ rw kept refl
    ∙ rows_between-cluster cluster (workload_number lists p) (workload_number lists q) ∙ ap (λ (table : Table). between (all_rows table)) (table_is lists sender) in
    ap (λ (found : List Row). allows_in found family spot) shown ∙ allows_in-pods lists p q family spot lawful first second apart among is

-- whether a query keeps a row of a workload and addresses is the same whatever the addresses
keeps-addresses : (query : Query) (workload : ℕ) (direction : Direction) (one other : AddressSpan) → keeps query (key_of workload direction (Span one)) ≡ keeps query
    (key_of workload direction (Span other))
keeps-addresses query.All workload direction one other = refl
keeps-addresses (query.Work focus Either) workload Ingress one other = refl
keeps-addresses (query.Work focus Either) workload Egress one other = refl
keeps-addresses (query.Work focus Source) workload Ingress one other = refl
keeps-addresses (query.Work focus Source) workload Egress one other = refl
keeps-addresses (query.Work focus Destination) workload Ingress one other = refl
keeps-addresses (query.Work focus Destination) workload Egress one other = refl

-- an end that is an address is a span
address-end : (family : Family) (number : ℕ) (end : RowEnd) → is_address family number end ≡ true → (addresses : AddressSpan) × (end ≡ Span addresses)
address-end family number (Span addresses) is = (addresses, refl)
address-end family number (Work other) is = absurd (false≢true is)
address-end family number Controller is = absurd (false≢true is)

-- a row of an address has the key of a workload and a span
address-key : (workload : ℕ) (direction : Direction) (family : Family) (number : ℕ) (row : Row) → is_of_address workload direction family number row ≡ true →
    (addresses : AddressSpan) × (row.key ≡ key_of workload direction (Span addresses))
address-key workload Ingress family number row is =
    let ends = and_parts (is_address family number row.key.source) (is_workload workload row.key.destination) is in
    let far = address-end family number row.key.source ends.0 in
    let from : RowEnd → RowKey = λ end. record { source = end; destination = row.key.destination } in
    let to : RowEnd → RowKey = λ end. record { source = Span far.0; destination = end } in
    (far.0, ap from far.1 ∙ ap to (is_workload-end workload row.key.destination ends.1))
address-key workload Egress family number row is =
    let ends = and_parts (is_workload workload row.key.source) (is_address family number row.key.destination) is in
    let far = address-end family number row.key.destination ends.1 in
    let from : RowEnd → RowKey = λ end. record { source = end; destination = row.key.destination } in
    let to : RowEnd → RowKey = λ end. record { source = Work workload; destination = end } in
    (far.0, ap from (is_workload-end workload row.key.source ends.0) ∙ ap to far.1)

says_addresses : (lists : EstateLists) (sender : Option ℕ) (query : Query) → IsLawful lists → SaysAddresses lists query (rows_shown lists sender query)
says_addresses lists sender query lawful = λ p direction family number addresses within in_family kept.
    let cluster = cluster_table lists sender in
    let workload = workload_number lists p in
    let one = one_row-pods lists p direction family number lawful within in_family in
    let among : rows_of_address workload direction family number (cluster_rows cluster) ≡ one.0 ∷ [] =
    rows_of_address-cluster cluster workload direction family number
    ∙ ap (λ (table : Table). rows_of_address workload direction family number (all_rows table)) (table_is lists sender) ∙ one.1 in
    let own : is_of_address workload direction family number one.0 ≡ true =
    All-head (λ (row : Row). is_of_address workload direction family number row ≡ true) one.0 []
    (All-same (λ (row : Row). is_of_address workload direction family number row ≡ true) (one.0 ∷ []) (rows_of_address workload direction family number (cluster_rows cluster)) (sym among)
    (filter_passes (is_of_address workload direction family number) (cluster_rows cluster))) in
    let key = address-key workload direction family number one.0 own in
    let keeps_it : keeps query one.0.key ≡ true = ap (keeps query) key.1 ∙ keeps-addresses query workload direction key.0 addresses ∙ kept in
    (one.0, rows_of_address-kept workload direction family number (keeps query) (cluster_rows cluster) one.0 among ∙ rw keeps_it refl, one.2)

-- what is reached of a workload is what is reached of each of its pods, and nothing of the controller
ingress_allows-pods : (lists : EstateLists) (controller : Option ℕ) (p : ℕ) (spot : PortSpot) → IsLawful lists → p < length lists.pods
    → ingress_allows lists (folding_of lists) controller (workload_number lists p) spot
    ≡ (not (is_controller controller (workload_number lists p)) && ingress_reaches lists (sender_of (folding_of lists) controller) p spot)
unfolding ingress_allows
ingress_allows-pods lists controller p spot lawful within = by (is_controller controller (workload_number lists p)) refl
  where
    by : (own : Bool) → is_controller controller (workload_number lists p) ≡ own
        → (not own && ingress_reaches lists (sender_of (folding_of lists) controller) (source_pod (folding_of lists) (workload_number lists p)) spot)
        ≡ (not own && ingress_reaches lists (sender_of (folding_of lists) controller) p spot)
    by true is = refl
    by false is =
        ap (λ (own : Bool). not own && ingress_reaches lists (sender_of (folding_of lists) controller) (source_pod (folding_of lists) (workload_number lists p)) spot) (sym is)
        ∙ sym (reaches-allows lists controller p spot lawful within is)

says_ingresses : (lists : EstateLists) (sender : Option ℕ) (query : Query) → IsLawful lists → SaysIngresses lists sender query (rows_shown lists sender query)
says_ingresses lists sender query lawful = λ p family spot within is kept.
    let cluster = cluster_table lists sender in
    let shown : rows_from_controller (workload_number lists p) (rows_shown lists sender query) ≡ rows_from_controller (workload_number lists p) (cluster_rows cluster) =
    rows_from_controller-kept (workload_number lists p) (keeps query) (cluster_rows cluster) ∙ rw kept refl in
    ap (λ (found : List Row). allows_in found family spot) shown
    ∙ allows_in-workloads lists sender (workload_number lists p) family spot (number-workload lists p within) is
    ∙ ingress_allows-pods lists sender p spot lawful within

-- the rows of the table that are asked for say what passes
say_what_passes : (lists : EstateLists) (sender : Option ℕ) (query : Query) → IsLawful lists → SayWhatPasses lists sender query (rows_shown lists sender query)
say_what_passes lists sender query lawful = record {
  asked = filter_passes (λ (row : Row). keeps query row.key) (cluster_rows (cluster_table lists sender));
  each = All-filter (λ (row : Row). keeps query row.key) (λ (row : Row). IsRowOf lists row.key.source row.key.destination row)
      (cluster_rows (cluster_table lists sender)) (cluster_rows-are lists sender);
  order = AllPairs-filter ComesBefore (λ (row : Row). keeps query row.key) (cluster_rows (cluster_table lists sender)) (cluster-ordered (cluster_table lists sender));
  pods = says_pods lists sender query lawful;
  addresses = says_addresses lists sender query lawful;
  ingresses = says_ingresses lists sender query lawful;
}

-- ---- what was printed

-- the text of the table that is asked for is that of these rows
text_is : (lists : EstateLists) (sender : Option ℕ) (query : Query) (format : Format) (report : Report) →
    list_text (cluster_table lists sender) query format report ≡ report_text format (texts_of (names_of (folding_of lists)) report (rows_shown lists sender query))
unfolding list_text cluster_table table_of
text_is lists sender query format report = refl

-- ---- what is asked for

listing-done : (first : Result (Option ℕ) Fault) (second : Result Query Fault) (asked : Listing) → listing first second ≡ Ok asked → (first ≡ Ok asked.controller) × (second ≡ Ok asked.query)
listing-done (Ok controller) (Ok query) asked is =
    let same : record { controller = controller; query = query } ≡ asked = cc in (ap (λ (one : Listing). Ok one.controller) same, ap (λ (one : Listing). Ok one.query) same)
listing-done (Ok controller) (Err fault) asked is = absurd (cc)
listing-done (Err fault) second asked is = absurd (cc)

listing-refused : (first : Result (Option ℕ) Fault) (second : Result Query Fault) (fault : Fault) → listing first second ≡ Err fault →
    (first ≡ Err fault) ⊎ ((sender : Option ℕ) × (first ≡ Ok sender) × (second ≡ Err fault))
listing-refused (Ok controller) (Ok query) fault is = absurd (cc)
listing-refused (Ok controller) (Err other) fault is = inr (controller, refl, cc)
listing-refused (Err other) second fault is = inl (cc)

-- a reply that is no fault is the text of rows that are asked for
says_rows : (out : SinkTrace) (format : Format) (report : Report) (controller focus : Option (List ℕ)) (side : FocusSide) (texts : List (List ℕ)) (lists : EstateLists) (found : Result Listing Fault) →
    lists_of texts ≡ Ok lists → IsLawful lists → listing_of controller focus side lists ≡ found → fault_in (listing_text format report lists found) ≡ None →
    TookWhole out (text_in (listing_text format report lists found)) → SaysAll out format report controller focus side texts
says_rows out format report controller focus side texts lists (Err fault) read lawful is no_fault took = absurd (cc)
says_rows out format report controller focus side texts lists (Ok asked) read lawful is no_fault took =
    let parts = listing-done (controller_of controller lists) (query_of focus side lists) asked is in
    let focused = focus-named lists focus side asked.query parts.1 in
    record {
      lists = lists;
      sender = asked.controller;
      focused = focused.0;
      rows = rows_shown lists asked.controller asked.query;
      read = read;
      sender_named = controller-named lists controller asked.controller parts.0;
      focus_named = focused.1;
      says = subst (λ (query : Query). SayWhatPasses lists asked.controller query (rows_shown lists asked.controller asked.query)) focused.2
          (say_what_passes lists asked.controller asked.query lawful);
      printed = subst (TookWhole out) (text_is lists asked.controller asked.query format report) took;
    }

-- a whole report of accepted inputs says what passes
pub promised : (out : SinkTrace) (format : Format) (report : Report) (controller focus : Option (List ℕ)) (side : FocusSide) (texts : List (List ℕ)) (lists : EstateLists)
    → lists_of texts ≡ Ok lists → IsLawful lists → fault_in (list_reply format report controller focus side lists) ≡ None
    → TookWhole out (text_in (list_reply format report controller focus side lists)) → SaysAll out format report controller focus side texts
promised out format report controller focus side texts lists read lawful no_fault took =
    says_rows out format report controller focus side texts lists (listing_of controller focus side lists) read lawful refl no_fault took

-- ---- refusals

refuses : (format : Format) (report : Report) (controller focus : Option (List ℕ)) (side : FocusSide) (lists : EstateLists) (fault : Fault) (found : Result Listing Fault) →
    listing_of controller focus side lists ≡ found → fault_in (listing_text format report lists found) ≡ Some fault → RefusesList controller focus lists fault
refuses format report controller focus side lists fault (Ok asked) is told = absurd (cc)
refuses format report controller focus side lists fault (Err other) is told =
    let same : other ≡ fault = cc in
    elim (listing-refused (controller_of controller lists) (query_of focus side lists) other is) [
      | inl first ↦
          let unknown = controller-unknown lists controller other first in
          record { name = unknown.0; told = sym same ∙ unknown.2; unknown = unknown.3; given = inl unknown.1 }
      | inr second ↦
          let unknown = focus-unknown lists focus side other second.2 in
          record { name = unknown.0; told = sym same ∙ unknown.2; unknown = unknown.3; given = inr (unknown.1, second.0, controller-named lists controller second.0 second.1) }
    ]

-- what was read is refused only for a name that no workload has
pub refused : (format : Format) (report : Report) (controller focus : Option (List ℕ)) (side : FocusSide) (lists : EstateLists) (fault : Fault) → IsLawful lists
    → fault_in (list_reply format report controller focus side lists) ≡ Some fault → RefusesList controller focus lists fault
refused format report controller focus side lists fault lawful told =
    refuses format report controller focus side lists fault (listing_of controller focus side lists) refl told
