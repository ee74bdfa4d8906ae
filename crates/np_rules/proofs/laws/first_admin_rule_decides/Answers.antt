use Rattle.np_rules.specs.Prelude.{admin_candidates, admin_precedes}
use Rattle.np_rules.proofs.DeciderLemmas.{admin_order, least_is_among, least_is_first, none_is_empty}
use Rattle.np_rules.proofs.laws.first_admin_rule_decides.Goals as goal

pub returns-clause-among : goal.returns-clause-among
returns-clause-among c = λ policies direction p contact placed. least_is_among admin_precedes (admin_candidates policies direction p contact) placed

pub returns-clause-first : goal.returns-clause-first
returns-clause-first c = λ policies direction p contact placed. least_is_first admin_precedes admin_order (admin_candidates policies direction p contact) placed

pub returns-clause-none : goal.returns-clause-none
returns-clause-none c = λ policies direction p contact. none_is_empty admin_precedes (admin_candidates policies direction p contact)
