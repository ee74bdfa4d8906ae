use Rattle.std.proofs.Common.{◌≡◌, drop}
use Rattle.np_pieces.specs.Prelude.{value_at}
use Rattle.np_pieces.proofs.member.value_of.Given as goal

-- the pieces left have the value of all of them
abbrev pub invariant-loop-piece : goal.invariant-loop-piece
invariant-loop-piece g l =
    value_at g.P.Point.number_of (drop l.piece-index l.pieces) l.number ≡ value_at g.P.Point.number_of l.pieces l.number
