use Rattle.std.proofs.Common.{◌≡◌}
use Rattle.np_labels.proofs.values.distinct.Given as goal

abbrev pub invariant-loop-value : goal.invariant-loop-value
invariant-loop-value l = l.kept ≡ l.yielded
