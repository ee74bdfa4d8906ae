use Rattle.np_meaning.proofs.EachPodLemmas.{each_pod}
use Rattle.np_meaning.proofs.laws.each_pod_stands_once.Goals as goal

pub returns : goal.returns
returns c = each_pod
