use Rattle.np_labels.proofs.Ascending.{same_by_values}
use Rattle.np_labels.proofs.laws.labels_are_their_values.Goals as goal

pub returns : goal.returns
returns c = same_by_values
