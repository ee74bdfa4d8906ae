use Rattle.np_exposure.proofs.FewLemmas.{rows-few}
use Rattle.np_exposure.proofs.laws.rows_are_few.Goals as goal

pub returns : goal.returns
returns c = rows-few
