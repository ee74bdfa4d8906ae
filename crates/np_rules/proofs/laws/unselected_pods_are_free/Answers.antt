use Rattle.np_rules.proofs.SideLemmas.{unselected_is_free}
use Rattle.np_rules.proofs.laws.unselected_pods_are_free.Goals as goal

pub returns : goal.returns
returns c = unselected_is_free
