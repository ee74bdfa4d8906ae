-- Which rows a query asks for.
use Rattle.std.specs.Prelude.{ℕ, Bool, true, ◌||◌}
use Rattle.np_report.specs.Types.{Query, RowKey}
use Rattle.np_report.specs.declared.query.Query.TheVariants as query
pub use Rattle.np_table.specs.Said.{is_workload}
use Rattle.np_args.specs.declared.focus_side.FocusSide.{FocusSide}
use Rattle.np_args.specs.declared.focus_side.FocusSide.TheVariants.{Destination, Either, Source}

-- whether the workload is at the side of the row
abbrev pub is_at : ℕ → FocusSide → RowKey → Bool
is_at workload Either key = is_workload workload key.source || is_workload workload key.destination
is_at workload Source key = is_workload workload key.source
is_at workload Destination key = is_workload workload key.destination

-- whether the query asks for the rows of the key
abbrev pub keeps : Query → RowKey → Bool
keeps query.All key = true
keeps (query.Work workload side) key = is_at workload side key
