-- `list`: the rows of the table that are asked for.
use Rattle.std.specs.Prelude.{ℕ, List, Option, Some, None, Result, Ok, Err}
use Rattle.np_command.specs.Prelude.{or_unknown}
use Rattle.np_command_list.specs.Types.{All, EstateLists, Fault, FocusSide, Format, Listing, Query, Report}
use Rattle.np_fold.specs.Prelude.{folding_of, number_named}
use Rattle.np_report.specs.Prelude.{list_text}
use Rattle.np_report.specs.declared.query.Query.TheVariants.{Work}
use Rattle.np_routes.specs.Prelude.{cluster_table}

-- Who sends what comes through ingresses: the workload of that name, or a controller that is not known.
unfoldable pub controller_of : Option (List ℕ) → EstateLists → Result (Option ℕ) Fault
controller_of None lists = Ok None
controller_of (Some name) lists = or_unknown name Some (number_named (folding_of lists) name)

-- Which rows are asked for: all, or with a focus those of the workload of that name.
unfoldable pub query_of : Option (List ℕ) → FocusSide → EstateLists → Result Query Fault
query_of None side lists = Ok All
query_of (Some name) side lists = or_unknown name (λ workload. Work workload side) (number_named (folding_of lists) name)

-- both, or the first fault
abbrev pub listing : Result (Option ℕ) Fault → Result Query Fault → Result Listing Fault
listing (Ok controller) (Ok query) = Ok (record { controller = controller; query = query })
listing (Ok controller) (Err fault) = Err fault
listing (Err fault) query = Err fault

abbrev pub listing_of : Option (List ℕ) → Option (List ℕ) → FocusSide → EstateLists → Result Listing Fault
listing_of controller focus side lists = listing (controller_of controller lists) (query_of focus side lists)

-- the table of a cluster, with those rows alone
abbrev pub listing_text : Format → Report → EstateLists → Result Listing Fault → Result (List ℕ) Fault
listing_text format report lists (Ok asked) = Ok (list_text (cluster_table lists asked.controller) asked.query format report)
listing_text format report lists (Err fault) = Err fault

abbrev pub list_reply : Format → Report → Option (List ℕ) → Option (List ℕ) → FocusSide → EstateLists → Result (List ℕ) Fault
list_reply format report controller focus side lists = listing_text format report lists (listing_of controller focus side lists)
