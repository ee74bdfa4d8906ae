use Rattle.np_owners.proofs.Ends.{up-top}
use Rattle.np_owners.proofs.laws.chains_end.Goals as goal

pub returns : goal.returns
returns c = up-top
