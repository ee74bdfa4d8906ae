use Rattle.np_labels.proofs.Ascending.{HasAscendingKeys-labels_of}
use Rattle.np_labels.proofs.laws.labels_ascend.Goals as goal

pub returns : goal.returns
returns c = HasAscendingKeys-labels_of
