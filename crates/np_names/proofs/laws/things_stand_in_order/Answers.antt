use Rattle.np_names.proofs.ThingLemmas.{in_order-all_by_name}
use Rattle.np_names.proofs.laws.things_stand_in_order.Goals as goal

pub returns : goal.returns
returns c = in_order-all_by_name
