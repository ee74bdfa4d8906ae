-- The values of lists of pieces.
use Rattle.std.proofs.Common.{◌≡◌, ℕ, ◌+◌, ◌<◌, ◌≤◌, List, [], ◌∷◌, Option, Some, None, true, false, arith}
use Rattle.std.proofs.lemmas.Bool.{and_from, and_left, and_right, le-leb, lt-leb}
use Rattle.np_pieces.specs.Types.{Piece}
use Rattle.np_pieces.specs.Pieces.{is_in, value_at, ArePieces}

-- a number from the piece's first to its last is in it
pub is_in-inside : {P S : Type 0} (number_of : P → ℕ) (piece : Piece P S) (n : ℕ) → number_of piece.lo ≤ n → n ≤ number_of piece.hi → is_in number_of piece n ≡ true
is_in-inside number_of piece n above below = and_from _ _ (le-leb (number_of piece.lo) n above) (le-leb n (number_of piece.hi) below)

-- a number before the piece's first is not
pub is_in-before : {P S : Type 0} (number_of : P → ℕ) (piece : Piece P S) (n : ℕ) → n < number_of piece.lo → is_in number_of piece n ≡ false
is_in-before number_of piece n below = and_left _ _ (lt-leb (number_of piece.lo) n below)

-- nor is a number past its last
pub is_in-past : {P S : Type 0} (number_of : P → ℕ) (piece : Piece P S) (n : ℕ) → number_of piece.hi < n → is_in number_of piece n ≡ false
is_in-past number_of piece n above = and_right _ _ (lt-leb n (number_of piece.hi) above)

-- the value in the first piece
pub value_at-first : {P S : Type 0} (number_of : P → ℕ) (piece : Piece P S) (pieces : List (Piece P S)) (n : ℕ) → number_of piece.lo ≤ n → n ≤ number_of piece.hi → value_at number_of (piece ∷ pieces) n ≡ Some piece.value
value_at-first number_of piece pieces n above below = rw (is_in-inside number_of piece n above below)

-- and past it
pub value_at-rest : {P S : Type 0} (number_of : P → ℕ) (piece : Piece P S) (pieces : List (Piece P S)) (n : ℕ) → number_of piece.hi < n → value_at number_of (piece ∷ pieces) n ≡ value_at number_of pieces n
value_at-rest number_of piece pieces n past = rw (is_in-past number_of piece n past)

-- pieces do not end before they begin
pub ArePieces-ordered : {P S : Type 0} (number_of : P → ℕ) (IsWell : S → Type 0) (from to : ℕ) (before : Option S) (pieces : List (Piece P S)) → ArePieces number_of IsWell from to before pieces → from ≤ to
ArePieces-ordered number_of IsWell from to before [] are = omega arith
ArePieces-ordered number_of IsWell from to before (piece ∷ pieces) are = omega (arith, ArePieces-ordered number_of IsWell (number_of piece.hi + 1) to (Some piece.value) pieces are.1, are.0.filled)

-- a number before the pieces has no value
pub value_at-before : {P S : Type 0} (number_of : P → ℕ) (IsWell : S → Type 0) (from to : ℕ) (before : Option S) (pieces : List (Piece P S)) (n : ℕ) → ArePieces number_of IsWell from to before pieces → n < from → value_at number_of pieces n ≡ None
value_at-before number_of IsWell from to before [] n are below = cc
value_at-before number_of IsWell from to before (piece ∷ pieces) n are below =
    rw (is_in-before number_of piece n (omega (arith, are.0.start))) (value_at-before number_of IsWell (number_of piece.hi + 1) to (Some piece.value) pieces n are.1 (omega (arith, are.0.filled)))

-- nor has one past them
pub value_at-past : {P S : Type 0} (number_of : P → ℕ) (IsWell : S → Type 0) (from to : ℕ) (before : Option S) (pieces : List (Piece P S)) (n : ℕ) → ArePieces number_of IsWell from to before pieces → to ≤ n → value_at number_of pieces n ≡ None
value_at-past number_of IsWell from to before [] n are past = cc
value_at-past number_of IsWell from to before (piece ∷ pieces) n are past =
    rw (is_in-past number_of piece n (omega (arith, ArePieces-ordered number_of IsWell (number_of piece.hi + 1) to (Some piece.value) pieces are.1))) (value_at-past number_of IsWell (number_of piece.hi + 1) to (Some piece.value) pieces n are.1 past)
