use Rattle.np_pieces.proofs.Overs.{has_spot-over}
use Rattle.np_pieces.proofs.pieces.Pieces.over.Goals as goal

pub returns-clause-members : goal.returns-clause-members
returns-clause-members g c =
    rw (c.from_pieces.ensures, ← c.ranges-2.ensures.value) (has_spot-over g.P.Point.number_of g.S.Cells.IsWell g.S.Cells.has g.P.Point.LOW g.P.Point.HIGH c.args.inside c.args.outside _ _
    c.in_ok-pieces.ensures.covers c.in_ok-pieces.ensures.values)
