use Rattle.np_meaning.proofs.RuleMatches.{admin_entry-Decides}
use Rattle.np_meaning.proofs.rule_laws.admin_port_entries_match_ranges_or_names.Goals as goal

pub returns : goal.returns
returns c = admin_entry-Decides
