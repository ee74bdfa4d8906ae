use Rattle.std.proofs.Common.{◌≡◌, ℕ, true, drop}
use Rattle.np_pieces.specs.Prelude.{has_at}
use Rattle.np_pieces.proofs.member.are_empty.Given as goal

-- what the pieces have, the pieces left have
abbrev pub invariant-loop-piece : goal.invariant-loop-piece
invariant-loop-piece g l =
    (n : ℕ) (spot : g.row.S-Spot.Denot) → has_at g.P.Point.number_of g.S.Cells.has l.pieces n spot ≡ true → has_at g.P.Point.number_of g.S.Cells.has (drop l.piece-index l.pieces) n spot ≡ true
