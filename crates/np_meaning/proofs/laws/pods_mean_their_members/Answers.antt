use Rattle.np_meaning.proofs.PodMeant.{pod-meant}
use Rattle.np_meaning.proofs.laws.pods_mean_their_members.Goals as goal

pub returns : goal.returns
returns c = pod-meant
