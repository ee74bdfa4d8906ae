use Rattle.std.proofs.Common.{◌≡◌}
use Rattle.np_labels.specs.Values as values_of
use Rattle.np_labels.proofs.values.ordered.Given as goal

-- the set has the values so far
abbrev pub invariant-loop-value : goal.invariant-loop-value
invariant-loop-value l = l.set.keys ≡ values_of.distinct l.yielded
