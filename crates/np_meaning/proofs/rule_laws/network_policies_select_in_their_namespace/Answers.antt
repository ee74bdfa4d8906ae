use Rattle.np_meaning.proofs.RuleMatches.{net_selects-Decides}
use Rattle.np_meaning.proofs.rule_laws.network_policies_select_in_their_namespace.Goals as goal

pub returns : goal.returns
returns c = net_selects-Decides
