use Rattle.np_objects.proofs.WellLemmas.{object_of-well, IsWellObject-of_item}
use Rattle.np_objects.proofs.object_shape.read_object.Goals as goal

pub returns-clause-well : goal.returns-clause-well
returns-clause-well c = IsWellObject-of_item _ _ _ (object_of-well _) c.read_item.ensures
