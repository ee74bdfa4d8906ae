use Rattle.np_command_exposure.proofs.WorkloadLemmas.{workload-exposes, workload-rows}
use Rattle.np_command_exposure.proofs.laws.workloads_stand_for_their_pods_to_strangers.Goals as goal

pub returns-clause-rows : goal.returns-clause-rows
returns-clause-rows c = workload-rows

pub returns-clause-exposures : goal.returns-clause-exposures
returns-clause-exposures c = workload-exposes
