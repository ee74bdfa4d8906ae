use Rattle.np_tiers.proofs.Verdicts.{mark_says}
use Rattle.np_tiers.proofs.laws.mark_says_what_the_walk_says.Goals as goal

pub returns : goal.returns
returns g c = mark_says
