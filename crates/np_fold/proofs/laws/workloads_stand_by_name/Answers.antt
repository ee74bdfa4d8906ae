use Rattle.np_fold.proofs.WorkloadLemmas.{workloads-by_name}
use Rattle.np_fold.proofs.laws.workloads_stand_by_name.Goals as goal

pub returns : goal.returns
returns c = workloads-by_name
