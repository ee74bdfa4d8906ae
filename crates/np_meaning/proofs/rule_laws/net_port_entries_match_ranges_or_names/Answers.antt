use Rattle.np_meaning.proofs.RuleMatches.{net_entry-Decides}
use Rattle.np_meaning.proofs.rule_laws.net_port_entries_match_ranges_or_names.Goals as goal

pub returns : goal.returns
returns c = net_entry-Decides
