use Rattle.np_flatten.proofs.FlatFacts.{group-set, set_from-is}
use Rattle.np_flatten.proofs.laws.groups_give_the_sets.Goals as goal

pub returns-clause-groups : goal.returns-clause-groups
returns-clause-groups c = group-set

pub returns-clause-rule : goal.returns-clause-rule
returns-clause-rule c = set_from-is
