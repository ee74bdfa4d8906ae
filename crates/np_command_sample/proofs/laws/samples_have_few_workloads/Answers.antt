use Rattle.std.proofs.Common.{arith}
use Rattle.np_command_sample.proofs.WorkloadLemmas.{workload_count-sample}
use Rattle.np_command_sample.proofs.laws.samples_have_few_workloads.Goals as goal

pub returns-clause-pods : goal.returns-clause-pods
returns-clause-pods c = workload_count-sample

pub returns-clause-few : goal.returns-clause-few
returns-clause-few c n few = omega (arith, workload_count-sample n)
