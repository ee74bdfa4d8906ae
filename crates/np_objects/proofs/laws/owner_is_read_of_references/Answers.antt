use Rattle.np_objects.proofs.OwnerReads.{pod-IsOwnerIn, controller-IsOwnerIn}
use Rattle.np_objects.proofs.laws.owner_is_read_of_references.Goals as goal

pub returns-clause-pods : goal.returns-clause-pods
returns-clause-pods c = pod-IsOwnerIn

pub returns-clause-controllers : goal.returns-clause-controllers
returns-clause-controllers c = controller-IsOwnerIn
