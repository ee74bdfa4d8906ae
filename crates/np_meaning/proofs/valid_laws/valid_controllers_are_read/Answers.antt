use Rattle.np_meaning.proofs.ValidControllerReads.{controller-valid}
use Rattle.np_meaning.proofs.valid_laws.valid_controllers_are_read.Goals as goal

pub returns : goal.returns
returns c = controller-valid
