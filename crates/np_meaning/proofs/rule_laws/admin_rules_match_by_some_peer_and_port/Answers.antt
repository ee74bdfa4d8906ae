use Rattle.std.proofs.Common.{refl}
use Rattle.np_meaning.proofs.RuleMatches.{admin_rule-Decides}
use Rattle.np_meaning.proofs.rule_laws.admin_rules_match_by_some_peer_and_port.Goals as goal

pub returns-clause-rule : goal.returns-clause-rule
returns-clause-rule c = admin_rule-Decides

pub returns-clause-none : goal.returns-clause-none
returns-clause-none c = λ rule contact none. rw none refl
