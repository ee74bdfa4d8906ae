use Rattle.np_routes.proofs.ClusterLemmas.{allows_in-cluster, allows_in-pods, allows_in-workloads, rows_from_controller-one}
use Rattle.np_routes.proofs.laws.ingress_rows_say_what_passes.Goals as goal

pub returns-clause-table : goal.returns-clause-table
returns-clause-table c = allows_in-cluster

pub returns-clause-one : goal.returns-clause-one
returns-clause-one c = rows_from_controller-one

pub returns-clause-workloads : goal.returns-clause-workloads
returns-clause-workloads c = allows_in-workloads

pub returns-clause-pods : goal.returns-clause-pods
returns-clause-pods c = allows_in-pods
