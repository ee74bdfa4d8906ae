use Rattle.np_items.proofs.LawLemmas.{values_from-refused}
use Rattle.np_items.proofs.laws.first_refused_input_stands.Goals as goal

pub returns : goal.returns
returns c = values_from-refused 1
