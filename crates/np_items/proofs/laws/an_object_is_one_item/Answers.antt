use Rattle.np_items.proofs.LawLemmas.{items_in-object}
use Rattle.np_items.proofs.laws.an_object_is_one_item.Goals as goal

pub returns : goal.returns
returns c = items_in-object
