use Rattle.std.proofs.Common.{◌≡◌, map}
use Rattle.np_exposure.specs.Prelude.{with_first}
use Rattle.np_exposure.proofs.open_row.all_with_first.Given as goal

abbrev pub invariant-loop-row : goal.invariant-loop-row
invariant-loop-row l = l.made.items ≡ map (with_first l.requirement) l.yielded
