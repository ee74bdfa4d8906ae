use Rattle.np_meaning.proofs.RuleMatches.{admin_peer-Decides}
use Rattle.np_meaning.proofs.rule_laws.admin_peers_stand_for_pods_or_networks.Goals as goal

pub returns : goal.returns
returns c = admin_peer-Decides
