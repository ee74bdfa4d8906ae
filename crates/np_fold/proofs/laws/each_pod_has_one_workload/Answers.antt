use Rattle.np_fold.proofs.WorkloadLemmas.{member-by_number, number-in_workloads}
use Rattle.np_fold.proofs.laws.each_pod_has_one_workload.Goals as goal

pub returns-clause-number : goal.returns-clause-number
returns-clause-number c = number-in_workloads

pub returns-clause-members : goal.returns-clause-members
returns-clause-members c = member-by_number
