use Rattle.np_explain.proofs.OneListLemmas.{one_part}
use Rattle.np_explain.proofs.laws.each_spot_is_in_one_part.Goals as goal

pub returns : goal.returns
returns c = one_part
