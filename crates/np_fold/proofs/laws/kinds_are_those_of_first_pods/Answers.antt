use Rattle.np_fold.proofs.WorkloadLemmas.{one_kind}
use Rattle.np_fold.proofs.laws.kinds_are_those_of_first_pods.Goals as goal

pub returns : goal.returns
returns c = one_kind
