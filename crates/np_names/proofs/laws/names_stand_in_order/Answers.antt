use Rattle.np_names.proofs.NumberLemmas.{names-in-order}
use Rattle.np_names.proofs.laws.names_stand_in_order.Goals as goal

pub returns : goal.returns
returns c = names-in-order
