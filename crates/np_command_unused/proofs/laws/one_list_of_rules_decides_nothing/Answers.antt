use Rattle.np_command_unused.proofs.OneListLemmas.{one-list, one-text}
use Rattle.np_command_unused.proofs.laws.one_list_of_rules_decides_nothing.Goals as goal

pub returns-clause-rules : goal.returns-clause-rules
returns-clause-rules c = one-list

pub returns-clause-text : goal.returns-clause-text
returns-clause-text c = one-text
