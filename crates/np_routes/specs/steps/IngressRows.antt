-- The rows of ingresses from a workload on.
use Rattle.std.specs.Prelude.{ℕ, ◌≡◌, ◌<◌, ◌≤◌, ◌-◌, ◌*◌, ◌^◌, List, [], flat_map, length, Option, Some}
use Rattle.std.specs.List.{range_with_len}
use Rattle.std.specs.Option.{option_map_or}
use Rattle.np_routes.specs.Types.{EstateLists, Row}
use Rattle.np_fold.specs.Prelude.{folding_of}
use Rattle.np_routes.specs.ClusterTable.{ClusterTable, ingress_row}
use Rattle.np_routes.specs.Controllers.{Routing}
use Rattle.np_kinds.specs.Prelude.{IsWorkload, number_of_workloads}
use Rattle.np_table.specs.Prelude.{RowsToCome, most_rules}

-- the rows of a table that are left, none where it has ended
abbrev pub rows_left : Option RowsToCome → List Row
rows_left table = option_map_or (λ to_come. to_come.rows) table []

-- and the rules that may be looked at for them
abbrev pub due_left : Option RowsToCome → ℕ
due_left table = option_map_or (λ to_come. to_come.due) table 0

-- the rows of the workloads from one on
unfoldable pub ingress_rows_from : ClusterTable → ℕ → List Row
ingress_rows_from cluster workload = flat_map (ingress_row cluster) (range_with_len workload (length cluster.table.names - workload))

-- four times the most rules for each of them
unfoldable pub ingress_due : EstateLists → ℕ → ℕ
ingress_due lists workload = 4 * most_rules lists (folding_of lists) * (number_of_workloads lists - workload)

-- the next workload is not behind the last one, and the controller is one where it is known
pub record IsAtWorkload (routing : Routing) (workload count : ℕ) : Type 0 where
  pub all : count ≡ number_of_workloads routing.lists
  pub within : workload ≤ count
  pub fits : count < 2 ^ 32
  pub controls : (controller : ℕ) → routing.controller ≡ Some controller → IsWorkload routing.lists controller
