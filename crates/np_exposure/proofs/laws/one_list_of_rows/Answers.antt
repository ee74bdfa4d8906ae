use Rattle.np_exposure.proofs.RightLemmas.{rows-one}
use Rattle.np_exposure.proofs.laws.one_list_of_rows.Goals as goal

pub returns : goal.returns
returns c = rows-one
