use Rattle.std.proofs.Common.{◌≡◌, drop}
use Rattle.np_check.specs.Prelude.{first_number}
use Rattle.np_check.proofs.addresses.first_point.Given as goal

-- the first in the ranges that are left is the first in all
abbrev pub invariant-loop-range : goal.invariant-loop-range
invariant-loop-range g l =
    first_number g.P.Point.number_of (drop l.range-index l.ranges) (g.P.Point.number_of l.within.lo) (g.P.Point.number_of l.within.hi)
    ≡ first_number g.P.Point.number_of l.ranges (g.P.Point.number_of l.within.lo) (g.P.Point.number_of l.within.hi)
