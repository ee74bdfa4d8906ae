use Rattle.np_fold.proofs.WorkloadLemmas.{first-is, pods-ascend, pods-within, workloads-count}
use Rattle.np_fold.proofs.laws.workloads_have_pods.Goals as goal

pub returns-clause-count : goal.returns-clause-count
returns-clause-count c = workloads-count

pub returns-clause-pods : goal.returns-clause-pods
returns-clause-pods c = pods-within

pub returns-clause-ascending : goal.returns-clause-ascending
returns-clause-ascending c = pods-ascend

pub returns-clause-first : goal.returns-clause-first
returns-clause-first c = first-is
