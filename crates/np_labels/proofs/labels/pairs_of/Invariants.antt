use Rattle.std.proofs.Common.{◌≡◌, map}
use Rattle.np_labels.proofs.labels.pairs_of.Given as goal

-- the pairs so far are those of the entries so far
abbrev pub invariant-loop-key : goal.invariant-loop-key
invariant-loop-key l = l.made.items ≡ map (λ entry. record { key = entry.0; value = entry.1 }) l.yielded
