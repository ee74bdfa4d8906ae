use Rattle.std.proofs.Common.{refl}
use Rattle.np_meaning.proofs.RuleMatches.{net_rule-Decides}
use Rattle.np_meaning.proofs.rule_laws.net_rules_match_by_some_peer_and_port.Goals as goal

pub returns-clause-rule : goal.returns-clause-rule
returns-clause-rule c = net_rule-Decides

pub returns-clause-all : goal.returns-clause-all
returns-clause-all c = λ namespace contact. refl
