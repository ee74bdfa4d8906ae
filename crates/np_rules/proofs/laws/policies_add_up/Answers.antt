use Rattle.np_rules.proofs.SideLemmas.{policy_adds}
use Rattle.np_rules.proofs.laws.policies_add_up.Goals as goal

pub returns : goal.returns
returns c = policy_adds
