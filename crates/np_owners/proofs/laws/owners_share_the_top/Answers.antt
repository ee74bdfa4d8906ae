use Rattle.np_owners.proofs.Ends.{top-up}
use Rattle.np_owners.proofs.laws.owners_share_the_top.Goals as goal

pub returns : goal.returns
returns c = top-up
