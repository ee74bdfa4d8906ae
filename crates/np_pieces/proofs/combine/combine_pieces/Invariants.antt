use Rattle.std.proofs.Common.{ℕ, ◌+◌, length}
use Rattle.np_pieces.proofs.Walks.{IsWalked, IsCombined}
use Rattle.np_pieces.proofs.combine.combine_pieces.Given as goal

-- Up to some number all is made, and the rests of the lists go on from there.
abbrev pub invariant-loop-step : goal.invariant-loop-step
invariant-loop-step g l =
    (from : ℕ) ×
    IsWalked g.P.Point.number_of g.S.Cells.IsWell from (g.P.Point.HIGH + 1) l.fn.left l.fn.right l.left l.right ×
    IsCombined g.P.Point.number_of g.S.Cells.IsWell g.S.Cells.has l.operation g.P.Point.LOW from l.fn.left l.fn.right l.made.items

abbrev pub decreases-loop-step : goal.decreases-loop-step
decreases-loop-step g l = length l.left + length l.right
