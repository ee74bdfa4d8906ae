use Rattle.std.proofs.Common.{◌≡◌, map}
use Rattle.np_labels.specs.Prelude.{pair_of}
use Rattle.np_objects.proofs.label_map.pairs_of.Given as goal

-- the labels so far are those of the entries so far
abbrev pub invariant-loop-key : goal.invariant-loop-key
invariant-loop-key l = l.pairs ≡ map pair_of l.yielded
