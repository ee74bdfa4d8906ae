-- The table of a cluster: what passes between workloads, between them and addresses, and to them through ingresses.
use Rattle.std.specs.Prelude.{ℕ, List, ◌++◌, Bool, true, false, ◌&&◌, filter, flat_map, Option, None}
use Rattle.np_routes.specs.Types.{Controller, EstateLists, PortSpot, Row, RowEnd, RowKey, Work}
use Rattle.np_fold.specs.Prelude.{folding_of}
use Rattle.np_routes.specs.Controllers.{ingress_allows}
use Rattle.np_table.specs.Prelude.{Table, all_rows, estate_table, is_workload, row_if, workloads}
use Rattle.np_conns.specs.Prelude.{conns_of}

-- The table of an estate, and which ports of each workload are reached through ingresses.
pub record ClusterTable : Type 0 where
  pub table : Table
  pub ingresses : ℕ → PortSpot → Bool

-- by a controller of ingresses that is a workload, or by one that is not known
unfoldable pub cluster_table : EstateLists → Option ℕ → ClusterTable
cluster_table lists controller = record { table = estate_table lists; ingresses = ingress_allows lists (folding_of lists) controller }

-- ---- rows

abbrev pub ingress_key : ℕ → RowKey
ingress_key workload = record { source = Controller; destination = Work workload }

-- the row of a workload, where some port of it is reached
unfoldable pub ingress_row : ClusterTable → ℕ → List Row
ingress_row cluster workload = row_if (ingress_key workload) None (conns_of (cluster.ingresses workload))

-- the rows of all workloads in their order, from the controller of ingresses
unfoldable pub all_ingress_rows : ClusterTable → List Row
all_ingress_rows cluster = flat_map (ingress_row cluster) (workloads cluster.table)

-- the rows of pairs and of addresses, and then those of ingresses
abbrev pub cluster_rows : ClusterTable → List Row
cluster_rows cluster = all_rows cluster.table ++ all_ingress_rows cluster

-- ---- what they say

abbrev pub is_ingress_controller : RowEnd → Bool
is_ingress_controller Controller = true
is_ingress_controller end = false

-- whether a row is from the controller of ingresses to a workload
abbrev pub is_from_controller : ℕ → Row → Bool
is_from_controller workload row = is_ingress_controller row.key.source && is_workload workload row.key.destination

-- the rows of a list that are from the controller of ingresses to a workload
abbrev pub rows_from_controller : ℕ → List Row → List Row
rows_from_controller workload rows = filter (is_from_controller workload) rows

-- ---- rows one after another

-- what is still to come of the rows of a cluster, and an upper bound of the rules that are still to be looked at for them
pub record ClusterToCome : Type 0 where
  pub rows : List Row
  pub due : ℕ
