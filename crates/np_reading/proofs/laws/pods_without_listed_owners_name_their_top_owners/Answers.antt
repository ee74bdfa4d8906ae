use Rattle.np_reading.proofs.TopLemmas.{top_owner-pod}
use Rattle.np_reading.proofs.laws.pods_without_listed_owners_name_their_top_owners.Goals as goal

pub returns : goal.returns
returns c = top_owner-pod
