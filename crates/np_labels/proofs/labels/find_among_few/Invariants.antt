use Rattle.std.proofs.Common.{◌≡◌, drop}
use Rattle.np_labels.specs.Prelude.{value_of}
use Rattle.np_labels.proofs.labels.find_among_few.Given as goal

-- no pair so far has the key
abbrev pub invariant-loop-pair : goal.invariant-loop-pair
invariant-loop-pair l = value_of (drop l.pair-index l.pairs) l.key ≡ value_of l.pairs l.key
