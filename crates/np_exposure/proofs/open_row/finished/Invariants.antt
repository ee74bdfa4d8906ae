use Rattle.std.proofs.Common.{◌≡◌}
use Rattle.np_exposure.proofs.open_row.finished.Given as goal

abbrev pub invariant-loop-row : goal.invariant-loop-row
invariant-loop-row l = l.made ≡ l.yielded
