use Rattle.np_labels.proofs.Distinct.{sorted-from_ascending}
use Rattle.np_labels.proofs.laws.values_ascend.Goals as goal

pub returns : goal.returns
returns c = λ requirement. sorted-from_ascending requirement.values requirement.ascending
