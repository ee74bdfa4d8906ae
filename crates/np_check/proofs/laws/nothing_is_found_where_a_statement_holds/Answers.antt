use Rattle.np_check.proofs.HoldLemmas.{found_none, holds}
use Rattle.np_check.proofs.laws.nothing_is_found_where_a_statement_holds.Goals as goal

pub returns : goal.returns
returns c = λ lists question lawful sources destinations. (holds lists question lawful, found_none lists question lawful sources destinations)
