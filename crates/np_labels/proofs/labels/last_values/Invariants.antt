use Rattle.std.proofs.Common.{◌≡◌, map}
use Rattle.np_labels.specs.Prelude.{labels_of, pair_of}
use Rattle.np_labels.proofs.labels.last_values.Given as goal

-- the map has the labels of the pairs so far
abbrev pub invariant-loop-key : goal.invariant-loop-key
invariant-loop-key l = map pair_of l.made.entries ≡ labels_of l.yielded
