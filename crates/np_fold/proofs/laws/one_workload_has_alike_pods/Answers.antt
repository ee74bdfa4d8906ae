use Rattle.np_fold.proofs.WorkloadLemmas.{one_workload}
use Rattle.np_fold.proofs.laws.one_workload_has_alike_pods.Goals as goal

pub returns : goal.returns
returns c = one_workload
