use Rattle.np_fold.proofs.AlikeLemmas.{alike_decide, kinds_decide}
use Rattle.np_fold.proofs.laws.the_five_equalities.Goals as goal

pub returns-clause-alike : goal.returns-clause-alike
returns-clause-alike c = alike_decide

pub returns-clause-kind : goal.returns-clause-kind
returns-clause-kind c = kinds_decide
