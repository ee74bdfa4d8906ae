use Rattle.np_pieces.proofs.pieces.PiecesCells.is_empty.Goals as goal

pub returns-clause-answer : goal.returns-clause-answer
returns-clause-answer g c = rw c.pieces.ensures.value at c.are_empty.ensures
