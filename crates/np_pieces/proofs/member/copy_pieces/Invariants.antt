use Rattle.std.proofs.Common.{◌≡◌, take}
use Rattle.np_pieces.proofs.member.copy_pieces.Given as goal

-- the copies so far are of the pieces so far
abbrev pub invariant-loop-piece : goal.invariant-loop-piece
invariant-loop-piece g l = l.copies.items ≡ take l.piece-index l.pieces
