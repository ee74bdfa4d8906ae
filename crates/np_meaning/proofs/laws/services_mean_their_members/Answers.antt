use Rattle.np_meaning.proofs.ServiceMeant.{service-meant}
use Rattle.np_meaning.proofs.laws.services_mean_their_members.Goals as goal

pub returns : goal.returns
returns c = service-meant
