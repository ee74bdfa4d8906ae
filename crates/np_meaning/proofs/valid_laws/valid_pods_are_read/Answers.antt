use Rattle.np_meaning.proofs.ValidPodReads.{pod-valid}
use Rattle.np_meaning.proofs.valid_laws.valid_pods_are_read.Goals as goal

pub returns : goal.returns
returns c = pod-valid
