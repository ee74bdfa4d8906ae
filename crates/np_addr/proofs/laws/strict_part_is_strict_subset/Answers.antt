use Rattle.np_addr.proofs.SubsetLemmas.{strict_part_subset}
use Rattle.np_addr.proofs.laws.strict_part_is_strict_subset.Goals as goal

pub returns : goal.returns
returns c = strict_part_subset
