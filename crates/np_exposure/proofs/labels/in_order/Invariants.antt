use Rattle.std.proofs.Common.{◌≡◌}
use Rattle.np_exposure.proofs.labels.in_order.Given as goal

abbrev pub invariant-loop-text : goal.invariant-loop-text
invariant-loop-text l = l.made ≡ l.yielded
