use Rattle.np_items.proofs.LawLemmas.{each_item-refused}
use Rattle.np_items.proofs.laws.first_refused_item_stands.Goals as goal

pub returns : goal.returns
returns c = each_item-refused 1
