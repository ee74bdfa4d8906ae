use Rattle.np_explain.proofs.OneListLemmas.{one_is_right}
use Rattle.np_explain.proofs.laws.one_list_of_parts_is_right.Goals as goal

pub returns : goal.returns
returns c = one_is_right
