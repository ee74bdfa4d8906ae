use Rattle.std.proofs.Common.{◌≡◌, take, map}
use Rattle.np_fold.proofs.LabelLemmas.{are_listed, label_of_pair}
use Rattle.np_fold.proofs.traits.labels_of.Given as goal

-- the labels so far are those of the pairs so far whose keys are listed
abbrev pub invariant-loop-pair : goal.invariant-loop-pair
invariant-loop-pair l = l.labels ≡ map label_of_pair (are_listed l.keys (take l.pair-index l.pairs))
