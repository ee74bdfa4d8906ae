-- Pieces found in a list. For `are_empty` and `value_of`.
use Rattle.std.proofs.Common.{◌≡◌, ℕ, ◌+◌, ◌<◌, ◌≤◌, List, [], ◌∷◌, Option, Some, None, is_some, Bool, true, zero, suc, length, get_or, drop, sym, ◌∙◌, ap, arith}
use Rattle.std.proofs.lemmas.Bool.{true≢false}
use Rattle.np_base.proofs.Lists.{drop-ended}
use Rattle.np_pieces.specs.Prelude.{ArePieces, At, Covers, Piece, has_spot, value_at, value_at-first, value_at-rest, value_at-some}

-- a number of the space is not past all pieces
pub not_past_all : {P S : Type 0} (number_of : P → ℕ) (IsWell : S → Type 0) (low high : ℕ) (pieces : List (Piece P S)) (index n : ℕ) → Covers number_of IsWell low high pieces → low ≤ n → n ≤ high →
    length pieces ≤ index → value_at number_of (drop index pieces) n ≡ value_at number_of pieces n → ⊥
not_past_all number_of IsWell low high pieces index n covers above below ended same =
    let some = value_at-some number_of IsWell low (high + 1) None pieces n covers above (omega arith) in
    let none : value_at number_of pieces n ≡ None = sym same ∙ ap (λ rest. value_at number_of rest n) (drop-ended pieces index ended) in
    true≢false (sym some ∙ ap is_some none)

-- each piece has its value at its first number, and the value is well formed
pub value_at-item : {P S : Type 0} (number_of : P → ℕ) (IsWell : S → Type 0) (from to : ℕ) (before : Option S) (pieces : List (Piece P S)) (index : ℕ) (piece : Piece P S) →
    ArePieces number_of IsWell from to before pieces → index < length pieces → piece ≡ get_or pieces index piece →
    (from ≤ number_of piece.lo) × (value_at number_of pieces (number_of piece.lo) ≡ Some piece.value) × IsWell piece.value
value_at-item number_of IsWell from to before [] index piece are within is = absurd (omega arith)
value_at-item number_of IsWell from to before (first ∷ pieces) zero piece are within is =
    rw is (omega (arith, are.0.start), value_at-first number_of first pieces (number_of first.lo) (omega arith) (omega (arith, are.0.start, are.0.filled)), are.0.well)
value_at-item number_of IsWell from to before (first ∷ pieces) (suc index) piece are within is =
    let later = value_at-item number_of IsWell (number_of first.hi + 1) to (Some first.value) pieces index piece are.1 (omega arith) is in
    (omega (arith, are.0.filled, later.0), value_at-rest number_of first pieces (number_of piece.lo) (omega (arith, later.0)) ∙ later.1, later.2)

-- a spot of a piece's value is a spot of the list
pub spot_of_item : {P S T : Type 0} (number_of : P → ℕ) (IsWell : S → Type 0) (has : S → T → Bool) (low high : ℕ) (pieces : List (Piece P S)) (index : ℕ) (piece : Piece P S) →
    Covers number_of IsWell low high pieces → index < length pieces → piece ≡ get_or pieces index piece → (spot : T) × (has piece.value spot ≡ true) →
    (place : At P T) × (has_spot number_of has pieces place ≡ true)
spot_of_item number_of IsWell has low high pieces index piece covers within is (spot, held) =
    (record { point = piece.lo; spot = spot }, rw ((value_at-item number_of IsWell low (high + 1) None pieces index piece covers within is).1) held)
