use Rattle.np_labels.proofs.PairLists.{value_of-labels_of}
use Rattle.np_labels.proofs.laws.labels_have_last_values.Goals as goal

pub returns : goal.returns
returns c = value_of-labels_of
