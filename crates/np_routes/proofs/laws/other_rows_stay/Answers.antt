use Rattle.np_routes.proofs.ClusterLemmas.{rows_between-cluster, rows_of_address-cluster}
use Rattle.np_routes.proofs.laws.other_rows_stay.Goals as goal

pub returns-clause-pairs : goal.returns-clause-pairs
returns-clause-pairs c = rows_between-cluster

pub returns-clause-addresses : goal.returns-clause-addresses
returns-clause-addresses c = rows_of_address-cluster
