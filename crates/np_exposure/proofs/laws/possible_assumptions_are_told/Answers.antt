use Rattle.np_exposure.proofs.PossibleLemmas.{assumed-possible}
use Rattle.np_exposure.proofs.laws.possible_assumptions_are_told.Goals as goal

pub returns : goal.returns
returns c = assumed-possible
