use Rattle.np_fold.proofs.OwnerNameLemmas.{owner_names-apart}
use Rattle.np_fold.proofs.laws.owner_names_tell_owners_apart.Goals as goal

pub returns : goal.returns
returns c = owner_names-apart
