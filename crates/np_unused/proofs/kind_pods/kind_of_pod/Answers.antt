use Rattle.np_unused.proofs.KindStepLemmas.{kind_there, number_there}
use Rattle.np_unused.proofs.kind_pods.kind_of_pod.Goals as goal

pub workload_of-requires : goal.workload_of-requires
workload_of-requires c = rw c.workloads-workloads.ensures.value (number_there c.args.folded.now c.args.pod c.requires)

pub kind_of-requires : goal.kind_of-requires
kind_of-requires c = rw (c.workload_of.ensures, c.workloads-workloads.ensures.value) (kind_there c.args.folded.now c.args.pod c.requires)
