use Rattle.np_names.proofs.ThingLemmas.{IsPermutation-all_by_name}
use Rattle.np_names.proofs.laws.no_thing_is_lost.Goals as goal

pub returns : goal.returns
returns c = IsPermutation-all_by_name
