use Rattle.np_classes.proofs.Relations.{same_class, alike_in_class}
use Rattle.np_classes.proofs.laws.alike_places_have_one_class.Goals as goal

pub returns : goal.returns
returns c alike count a b lawful in_a in_b = (same_class alike count lawful a b in_a in_b, alike_in_class alike count lawful a b in_a in_b)
