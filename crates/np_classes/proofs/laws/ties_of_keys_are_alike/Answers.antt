use Rattle.np_classes.proofs.KeyTies.{keys_are_alike}
use Rattle.np_classes.proofs.laws.ties_of_keys_are_alike.Goals as goal

pub returns : goal.returns
returns g c compare keys total = keys_are_alike compare total keys
