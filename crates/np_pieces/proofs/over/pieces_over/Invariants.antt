use Rattle.std.proofs.Common.{◌≤◌, drop}
use Rattle.np_pieces.proofs.Overs.{IsOver}
use Rattle.np_pieces.proofs.over.pieces_over.Given as goal

-- Up to the number `from` all is made, and it is not past the end.
abbrev pub invariant-loop-range : goal.invariant-loop-range
invariant-loop-range g l = record {
  over : IsOver g.P.Point.number_of g.S.Cells.IsWell g.P.Point.LOW g.P.Point.HIGH l.from l.inside l.outside l.ranges (drop l.range-index l.ranges) l.made.items;
  within : l.from ≤ g.P.Point.HIGH;
}
