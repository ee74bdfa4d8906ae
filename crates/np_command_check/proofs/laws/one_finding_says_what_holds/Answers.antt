use Rattle.np_command_check.proofs.OneFindingLemmas.{not-both, same-broken, same-statements, same-text}
use Rattle.np_command_check.proofs.laws.one_finding_says_what_holds.Goals as goal

pub returns-clause-statements : goal.returns-clause-statements
returns-clause-statements c = same-statements

pub returns-clause-apart : goal.returns-clause-apart
returns-clause-apart c = not-both

pub returns-clause-broken : goal.returns-clause-broken
returns-clause-broken c = same-broken

pub returns-clause-text : goal.returns-clause-text
returns-clause-text c = same-text
