use Rattle.np_meaning.proofs.ControllerMeant.{controller-meant}
use Rattle.np_meaning.proofs.laws.controllers_mean_their_members.Goals as goal

pub returns : goal.returns
returns c = controller-meant
