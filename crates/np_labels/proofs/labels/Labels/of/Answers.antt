use Rattle.std.proofs.Common.{◌∙◌}
use Rattle.np_labels.proofs.Ascending.{HasAscendingKeys-labels_of}
use Rattle.np_labels.proofs.PairLists.{value_of-labels_of}
use Rattle.np_labels.proofs.labels.Labels.of.Goals as goal

pub invariant_of-result : goal.invariant_of-result
invariant_of-result c = rw (c.in_ok-pairs.ensures ∙ c.in_ok-last_values.ensures) (HasAscendingKeys-labels_of c.args.pairs)

pub returns-clause-values : goal.returns-clause-values
returns-clause-values c = rw (c.in_ok-pairs.ensures ∙ c.in_ok-last_values.ensures) (value_of-labels_of c.args.pairs)

pub returns-clause-ascending : goal.returns-clause-ascending
returns-clause-ascending c = rw (c.in_ok-pairs.ensures ∙ c.in_ok-last_values.ensures) (HasAscendingKeys-labels_of c.args.pairs)
