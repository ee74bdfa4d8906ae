use Rattle.np_meaning.proofs.IngressMeant.{ingress-meant}
use Rattle.np_meaning.proofs.laws.ingresses_mean_their_members.Goals as goal

pub returns : goal.returns
returns c = ingress-meant
