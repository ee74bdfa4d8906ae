use Rattle.np_exposure.proofs.RightLemmas.{each_row-first}
use Rattle.np_exposure.proofs.laws.each_row_is_first_for_some.Goals as goal

pub returns : goal.returns
returns c = each_row-first
