use Rattle.std.proofs.Common.{◌≡◌, take}
use Rattle.np_labels.proofs.labels.copy_pairs.Given as goal

-- the copies so far are of the pairs so far
abbrev pub invariant-loop-pair : goal.invariant-loop-pair
invariant-loop-pair l = l.made.items ≡ take l.pair-index l.pairs
