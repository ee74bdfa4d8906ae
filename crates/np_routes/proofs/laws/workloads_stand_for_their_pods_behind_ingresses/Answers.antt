use Rattle.np_routes.proofs.ReachedLemmas.{reaches-allows}
use Rattle.np_routes.proofs.laws.workloads_stand_for_their_pods_behind_ingresses.Goals as goal

pub returns : goal.returns
returns c = reaches-allows
