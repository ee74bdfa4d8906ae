use Rattle.np_test_fold.proofs.RulesLemmas.{none_looked_at}
use Rattle.np_test_fold.proofs.all_rows.counted_rows.Goals as goal

pub returns-clause-without_policies : goal.returns-clause-without_policies
returns-clause-without_policies g c = λ none. none_looked_at _ _ _ none c.count_each.ensures.least c.count_each.ensures.most
