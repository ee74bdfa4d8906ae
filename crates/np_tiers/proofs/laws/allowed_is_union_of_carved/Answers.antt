use Rattle.np_tiers.proofs.Verdicts.{union_says}
use Rattle.np_tiers.proofs.laws.allowed_is_union_of_carved.Goals as goal

pub returns : goal.returns
returns g c = union_says
