use Rattle.np_classes.proofs.Relations.{members_of_class}
use Rattle.np_classes.proofs.laws.members_are_of_one_class.Goals as goal

pub returns : goal.returns
returns c alike count place lawful within = members_of_class alike count lawful place within
