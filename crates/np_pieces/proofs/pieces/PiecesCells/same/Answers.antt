use Rattle.np_pieces.proofs.pieces.PiecesCells.same.Goals as goal

pub returns-clause-answer : goal.returns-clause-answer
returns-clause-answer g c = rw (c.pieces.ensures.value, c.pieces-2.ensures.value) at c.same_pieces.ensures
