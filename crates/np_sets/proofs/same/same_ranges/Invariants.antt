use Rattle.std.proofs.Common.{◌≡◌, length}
use Rattle.np_sets.specs.Alike.{are_alike}
use Rattle.np_sets.proofs.same.same_ranges.Given as goal

-- the rests of the lists are alike where the lists are
abbrev pub invariant-loop-first : goal.invariant-loop-first
invariant-loop-first g l =
    are_alike g.P.Point.number_of l.left l.right ≡ are_alike g.P.Point.number_of l.fn.left l.fn.right

abbrev pub decreases-loop-first : goal.decreases-loop-first
decreases-loop-first g l = length l.left
