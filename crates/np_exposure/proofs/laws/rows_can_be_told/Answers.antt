use Rattle.np_exposure.proofs.LeftLemmas.{rows_of-are}
use Rattle.np_exposure.proofs.laws.rows_can_be_told.Goals as goal

pub returns : goal.returns
returns c = rows_of-are
