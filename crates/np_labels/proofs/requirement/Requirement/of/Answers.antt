use Rattle.np_labels.proofs.Distinct.{is_listed-distinct}
use Rattle.np_labels.specs.Prelude.{distinct-ascends}
use Rattle.np_labels.proofs.requirement.Requirement.of.Goals as goal

pub invariant_of-result : goal.invariant_of-result
invariant_of-result c = record { ascending = rw c.in_ok-values.ensures (distinct-ascends c.args.values) }

pub returns-clause-same : goal.returns-clause-same
returns-clause-same c = λ value. rw c.in_ok-values.ensures (is_listed-distinct c.args.values value)
