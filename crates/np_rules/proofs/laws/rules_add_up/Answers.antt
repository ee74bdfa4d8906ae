use Rattle.np_rules.proofs.SideLemmas.{rule_adds}
use Rattle.np_rules.proofs.laws.rules_add_up.Goals as goal

pub returns : goal.returns
returns c = rule_adds
