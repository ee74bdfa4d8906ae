use Rattle.np_json.proofs.ShapeLemmas.{Gives-under_output, Gives-under_fault}
use Rattle.np_json.proofs.flaw.at_item.Goals as goal

pub returns-in-Ok-clause-flaw : goal.returns-in-Ok-clause-flaw
returns-in-Ok-clause-flaw g c = λ shape gives. Gives-under_output _ _ shape (rw c.in-Ok.is at gives)

pub returns-in-Err-clause-flaw : goal.returns-in-Err-clause-flaw
returns-in-Err-clause-flaw g c = λ shape gives. Gives-under_fault _ _ _ shape c.under_item.ensures (rw c.in-Err.is at gives)
