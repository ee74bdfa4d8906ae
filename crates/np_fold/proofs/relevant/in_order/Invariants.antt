use Rattle.std.proofs.Common.{◌≡◌}
use Rattle.np_fold.proofs.relevant.in_order.Given as goal

abbrev pub invariant-loop-key : goal.invariant-loop-key
invariant-loop-key l = l.made ≡ l.yielded
