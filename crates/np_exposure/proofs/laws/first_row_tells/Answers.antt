use Rattle.np_exposure.proofs.RightLemmas.{first_row-tells}
use Rattle.np_exposure.proofs.laws.first_row_tells.Goals as goal

pub returns : goal.returns
returns c = first_row-tells
