use Rattle.np_meaning.proofs.RuleMatches.{subject_selects-Decides}
use Rattle.np_meaning.proofs.rule_laws.subjects_select_by_both_selectors.Goals as goal

pub returns : goal.returns
returns c = subject_selects-Decides
