use Rattle.np_meaning.proofs.PodMeant.{namespace-meant}
use Rattle.np_meaning.proofs.laws.namespaces_mean_their_members.Goals as goal

pub returns : goal.returns
returns c = namespace-meant
