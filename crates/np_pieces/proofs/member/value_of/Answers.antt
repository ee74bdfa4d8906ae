use Rattle.std.proofs.Common.{◌+◌, None}
use Rattle.np_pieces.proofs.Found.{not_past_all, value_at-item}
use Rattle.np_pieces.proofs.member.value_of.Goals as goal

pub returns-then-has_number-clause-well : goal.returns-then-has_number-clause-well
returns-then-has_number-clause-well g c = (value_at-item g.P.Point.number_of g.S.Cells.IsWell g.P.Point.LOW
    (g.P.Point.HIGH + 1) None c.args.pieces.now c.loop-piece.piece-index c.piece-item.result c.requires.covers c.loop-piece-test.true c.piece-item.is).2

pub unreachable-requires : goal.unreachable-requires
unreachable-requires g c = not_past_all g.P.Point.number_of g.S.Cells.IsWell g.P.Point.LOW g.P.Point.HIGH c.args.pieces.now c.loop-piece.piece-index c.args.number c.requires.covers c.requires.low
    c.requires.high c.loop-piece-test.false c.loop-piece.invariant
