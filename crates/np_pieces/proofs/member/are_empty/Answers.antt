use Rattle.np_pieces.proofs.Found.{spot_of_item}
use Rattle.np_pieces.proofs.member.are_empty.Goals as goal

pub returns-then-not-is_empty : goal.returns-then-not-is_empty
returns-then-not-is_empty g c = spot_of_item g.P.Point.number_of g.S.Cells.IsWell g.S.Cells.has g.P.Point.LOW g.P.Point.HIGH c.args.pieces.now c.loop-piece.piece-index c.piece-item.result c.requires
    c.loop-piece-test.true c.piece-item.is c.if-not-is_empty.ensures.answer
