-- What a report of `list` says of the bytes of its inputs: the theorem of the program.
use Rattle.std.specs.Prelude.{◌≡◌, ◌≢◌, ◌<◌, ◌⊎◌, ℕ, List, filter, length, map, slice_get, All, AllPairs, Contains, true, ◌&&◌, not, Option, Some, None, Ok}
use Rattle.np_command_list.specs.Types.{AddressSpan, Direction, EstateLists, Family, Fault, FocusSide, Format, PortSpot, Query, Report, Row, Span, UnknownEnd}
use Rattle.np_command.specs.Prelude.{SinkTrace, TookWhole, lists_of}
use Rattle.np_command_list.specs.EachRow.{IsRowOf}
use Rattle.np_command_list.specs.RowOrder.{ComesBefore}
use Rattle.np_conns.specs.Prelude.{is_spot}
use Rattle.np_fold.specs.Prelude.{folding_of, workload_number}
use Rattle.np_model.specs.Prelude.{families_of}
use Rattle.np_report.specs.Prelude.{keeps, names_of, report_text, row_text}
use Rattle.np_report.specs.declared.query.Query.TheVariants as query
use Rattle.np_routes.specs.Prelude.{ingress_key, ingress_reaches, is_controller, is_from_controller, sender_of}
use Rattle.np_rules.specs.Prelude.{pod, pod_at}
use Rattle.np_table.specs.Prelude.{IsInFamily, OneRowSays, allows_in, is_between, key_of, pair_key}
use Rattle.np_kinds.specs.Prelude.{between_pods, with_address}

-- ---- what is asked for

-- the number is that of a workload with the name, where a name is given
abbrev pub IsNamed : EstateLists → Option (List ℕ) → Option ℕ → Type 0
IsNamed lists (Some name) (Some number) = slice_get (names_of (folding_of lists)) number ≡ Some name
IsNamed lists (Some name) None = ⊥
IsNamed lists None number = number ≡ None

-- all rows, or with a focus those that have the workload on a side
abbrev pub query_for : Option ℕ → FocusSide → Query
query_for None side = query.All
query_for (Some workload) side = query.Work workload side

-- ---- what rows say

-- For every two different pods, where rows between their workloads are asked for, the rows say exactly which ports the model
-- allows from the one pod to the other, in each family of the list: those in which some pod has an address, whichever these two
-- have, or IPv4 where none has one.
abbrev pub SaysPods : EstateLists → Query → List Row → Type 0
SaysPods lists query rows = (p q : ℕ) (family : Family) (spot : PortSpot) → p < length lists.pods → q < length lists.pods → p ≢ q
    → Contains (families_of lists.pods) family → is_spot spot ≡ true → keeps query (pair_key (workload_number lists p) (workload_number lists q)) ≡ true
    → allows_in (filter (is_between (workload_number lists p) (workload_number lists q)) rows) family spot ≡ between_pods lists p q family spot

-- For every pod, direction and address of either family, where rows of the pod's workload and addresses are asked for, whatever
-- range they have, there is exactly one whose range has the address, and it says exactly which ports the model allows between the two.
abbrev pub SaysAddresses : EstateLists → Query → List Row → Type 0
SaysAddresses lists query rows = (p : ℕ) (direction : Direction) (family : Family) (number : ℕ) (addresses : AddressSpan) → p < length lists.pods → IsInFamily family number
    → keeps query (key_of (workload_number lists p) direction (Span addresses)) ≡ true
    → OneRowSays (workload_number lists p) direction family number rows (with_address lists direction (pod (pod_at lists p)) family number)

-- For every pod, where rows from the controller of Ingresses to its workload are asked for, the rows say exactly which ports of
-- the pod are reached through Ingresses by the sender: the controller that is named, or where none is, a pod without labels of no
-- namespace. Where a policy admits a controller by its labels alone, there is no row unless it is named. Of the controller itself
-- none is.
abbrev pub SaysIngresses : EstateLists → Option ℕ → Query → List Row → Type 0
SaysIngresses lists sender query rows = (p : ℕ) (family : Family) (spot : PortSpot) → p < length lists.pods → is_spot spot ≡ true
    → keeps query (ingress_key (workload_number lists p)) ≡ true → allows_in (filter (is_from_controller (workload_number lists p)) rows) family spot
    ≡ (not (is_controller sender (workload_number lists p)) && ingress_reaches lists (sender_of (folding_of lists) sender) p spot)

-- Each row is asked for, is of pods of the estate, and comes before those behind it; and together they say what the model allows.
pub record SayWhatPasses (lists : EstateLists) (sender : Option ℕ) (query : Query) (rows : List Row) : Type 0 where
  pub asked : All (λ row. keeps query row.key ≡ true) rows
  pub each : All (λ row. IsRowOf lists row.key.source row.key.destination row) rows
  pub order : AllPairs ComesBefore rows
  pub pods : SaysPods lists query rows
  pub addresses : SaysAddresses lists query rows
  pub ingresses : SaysIngresses lists sender query rows

-- ---- the promise

-- The bytes of the inputs are those of an estate, of which a workload has each name that is given, and there are rows that
-- say what passes there, whose text the sink took.
pub record SaysAll (out : SinkTrace) (format : Format) (report : Report) (controller focus : Option (List ℕ)) (side : FocusSide) (texts : List (List ℕ)) : Type 0 where
  pub lists : EstateLists
  pub sender : Option ℕ
  pub focused : Option ℕ
  pub rows : List Row
  pub read : lists_of texts ≡ Ok lists
  pub sender_named : IsNamed lists controller sender
  pub focus_named : IsNamed lists focus focused
  pub says : SayWhatPasses lists sender (query_for focused side) rows
  pub printed : TookWhole out (report_text format (map (row_text (names_of (folding_of lists)) report) rows))

-- ---- refusals

-- What was read is refused only where no workload has a name that is given: that of the controller, or, where that is known, that
-- of the focus.
pub record RefusesList (controller focus : Option (List ℕ)) (lists : EstateLists) (fault : Fault) : Type 0 where
  pub name : List ℕ
  pub told : fault ≡ UnknownEnd name
  pub unknown : Contains (names_of (folding_of lists)) name → ⊥
  pub given : (controller ≡ Some name) ⊎ ((focus ≡ Some name) × (sender : Option ℕ) × IsNamed lists controller sender)
