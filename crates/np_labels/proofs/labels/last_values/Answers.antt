use Rattle.np_labels.proofs.PairLists.{labels_of-insert}
use Rattle.np_labels.proofs.labels.last_values.Goals as goal

pub loop-key-preserved-in_ok-insert : goal.loop-key-preserved-in_ok-insert
loop-key-preserved-in_ok-insert c = labels_of-insert c.loop-key.yielded c.in-Some.field-0 _ _ c.in_ok-insert.ensures.entries c.loop-key.invariant

pub loop-key-preserved : goal.loop-key-preserved
loop-key-preserved c = labels_of-insert c.loop-key.yielded c.in-Some.field-0 _ _ c.in_ok-insert.ensures.entries c.loop-key.invariant
