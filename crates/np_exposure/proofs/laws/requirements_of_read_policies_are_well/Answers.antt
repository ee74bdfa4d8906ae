use Rattle.np_exposure.proofs.WellLemmas.{rows_of-well}
use Rattle.np_exposure.proofs.laws.requirements_of_read_policies_are_well.Goals as goal

pub returns : goal.returns
returns c = rows_of-well
