-- Lists of pieces that grow at the end. For `grown`.
use Rattle.std.proofs.Common.{◌≡◌, ◌≢◌, ℕ, ◌+◌, ◌<◌, ◌≤◌, List, [], ◌∷◌, ◌++◌, Option, Some, None, Bool, true, false, not, cond, refl, sym, ◌∙◌, ap, arith}
use Rattle.std.proofs.lemmas.Bool.{le-leb}
use Rattle.np_base.proofs.Bools.{not_itself}
use Rattle.np_pieces.specs.Prelude.{ArePieces, IsWith, Piece, is_in, is_in-before, is_in-inside, value_at, value_at-past}

-- one more piece changes nothing before it
value_at-push_before : {P S : Type 0} (number_of : P → ℕ) (pieces : List (Piece P S)) (next : Piece P S) (n : ℕ) → n < number_of next.lo →
    value_at number_of (pieces ++ next ∷ []) n ≡ value_at number_of pieces n
value_at-push_before number_of [] next n below = rw (is_in-before number_of next n below)
value_at-push_before number_of (piece ∷ pieces) next n below = rw (value_at-push_before number_of pieces next n below)

none_past : {S : Type 0} (within : Bool) (value : S) (rest : Option S) → cond within (Some value) rest ≡ None → (within ≡ false) × (rest ≡ None)
none_past true value rest none = cc
none_past false value rest none = (refl, none)

-- where no piece has a number, the next one may
value_at-push_within : {P S : Type 0} (number_of : P → ℕ) (pieces : List (Piece P S)) (next : Piece P S) (n : ℕ) → value_at number_of pieces n ≡ None → is_in number_of next n ≡ true →
    value_at number_of (pieces ++ next ∷ []) n ≡ Some next.value
value_at-push_within number_of [] next n none within = rw within
value_at-push_within number_of (piece ∷ pieces) next n none within =
    let parts = none_past (is_in number_of piece n) piece.value (value_at number_of pieces n) none in
    rw parts.0 (value_at-push_within number_of pieces next n parts.1 within)

-- the pieces before the last one
ArePieces-front : {P S : Type 0} (number_of : P → ℕ) (IsWell : S → Type 0) (from to : ℕ) (before : Option S) (pieces : List (Piece P S)) (last : Piece P S) →
    ArePieces number_of IsWell from to before (pieces ++ last ∷ []) → ArePieces number_of IsWell from (number_of last.lo) before pieces
ArePieces-front number_of IsWell from to before [] last are = sym are.0.start
ArePieces-front number_of IsWell from to before (piece ∷ pieces) last are = (are.0, ArePieces-front number_of IsWell (number_of piece.hi + 1) to (Some piece.value) pieces last are.1)

-- the last piece
ArePieces-last : {P S : Type 0} (number_of : P → ℕ) (IsWell : S → Type 0) (from to : ℕ) (before : Option S) (pieces : List (Piece P S)) (last : Piece P S) →
    ArePieces number_of IsWell from to before (pieces ++ last ∷ []) → (number_of last.lo ≤ number_of last.hi) × (number_of last.hi + 1 ≡ to)
ArePieces-last number_of IsWell from to before [] last are = (omega (arith, are.0.start, are.0.filled), are.1)
ArePieces-last number_of IsWell from to before (piece ∷ pieces) last are = ArePieces-last number_of IsWell (number_of piece.hi + 1) to (Some piece.value) pieces last are.1

-- a piece of another value may follow the last one
ArePieces-push : {P S : Type 0} (number_of : P → ℕ) (IsWell : S → Type 0) (from to : ℕ) (before : Option S) (pieces : List (Piece P S)) (last next : Piece P S) →
    ArePieces number_of IsWell from to before (pieces ++ last ∷ []) → number_of next.lo ≡ to → to ≤ number_of next.hi → IsWell next.value → last.value ≢ next.value →
    ArePieces number_of IsWell from (number_of next.hi + 1) before ((pieces ++ last ∷ []) ++ next ∷ [])
ArePieces-push number_of IsWell from to before [] last next are start filled well differs =
    (are.0, (record { start = start ∙ sym are.1; filled = omega (arith, are.1); well = well; differs = λ same. differs (cc) }, refl))
ArePieces-push number_of IsWell from to before (piece ∷ pieces) last next are start filled well differs =
    (are.0, ArePieces-push number_of IsWell (number_of piece.hi + 1) to (Some piece.value) pieces last next are.1 start filled well differs)

-- the piece, up to another last point
abbrev pub widened : {P S : Type 0} → Piece P S → P → Piece P S
widened last hi = record { lo = last.lo; hi = hi; value = last.value }

-- the last piece may be widened
ArePieces-widened : {P S : Type 0} (number_of : P → ℕ) (IsWell : S → Type 0) (from to : ℕ) (before : Option S) (pieces : List (Piece P S)) (last : Piece P S) (hi : P) →
    ArePieces number_of IsWell from to before (pieces ++ last ∷ []) → to ≤ number_of hi → ArePieces number_of IsWell from (number_of hi + 1) before (pieces ++ widened last hi ∷ [])
ArePieces-widened number_of IsWell from to before [] last hi are filled =
    (record { start = are.0.start; filled = omega (arith, are.0.filled, are.1); well = are.0.well; differs = are.0.differs }, refl)
ArePieces-widened number_of IsWell from to before (piece ∷ pieces) last hi are filled =
    (are.0, ArePieces-widened number_of IsWell (number_of piece.hi + 1) to (Some piece.value) pieces last hi are.1 filled)

-- which changes nothing before its old end
value_at-widened : {P S : Type 0} (number_of : P → ℕ) (pieces : List (Piece P S)) (last : Piece P S) (hi : P) (n : ℕ) → n ≤ number_of last.hi → n ≤ number_of hi →
    value_at number_of (pieces ++ widened last hi ∷ []) n ≡ value_at number_of (pieces ++ last ∷ []) n
value_at-widened number_of [] last hi n old new = rw (le-leb n (number_of last.hi) old, le-leb n (number_of hi) new)
value_at-widened number_of (piece ∷ pieces) last hi n old new = rw (value_at-widened number_of pieces last hi n old new)

-- a piece of another value
pub IsWith-pushed : {P S : Type 0} (number_of : P → ℕ) (IsWell : S → Type 0) (pieces front : List (Piece P S)) (last next : Piece P S) → pieces ≡ front ++ last ∷ [] → last.value ≢ next.value →
    IsWith number_of IsWell pieces next (pieces ++ next ∷ [])
IsWith-pushed number_of IsWell pieces front last next is differs filled well from are = record {
  order = rw is (ArePieces-push number_of IsWell from (number_of next.lo) None front last next (rw is at are) refl filled well differs);
  before = λ n below. value_at-push_before number_of pieces next n below;
  within = λ n above below. value_at-push_within number_of pieces next n (value_at-past number_of IsWell from (number_of next.lo) None pieces n are above)
      (is_in-inside number_of next n above (omega arith));
}

widened_within : {P S : Type 0} (number_of : P → ℕ) (IsWell : S → Type 0) (from to : ℕ) (front : List (Piece P S)) (last : Piece P S) (hi : P) (n : ℕ) →
    ArePieces number_of IsWell from to None (front ++ last ∷ []) → to ≤ n → n ≤ number_of hi → value_at number_of (front ++ widened last hi ∷ []) n ≡ Some last.value
widened_within number_of IsWell from to front last hi n are above below =
    let ends = ArePieces-last number_of IsWell from to None front last are in
    let none = value_at-past number_of IsWell from (number_of last.lo) None front n (ArePieces-front number_of IsWell from to None front last are) (omega (arith, ends.0, ends.1)) in
    value_at-push_within number_of front (widened last hi) n none (is_in-inside number_of (widened last hi) n (omega (arith, ends.0, ends.1)) below)

-- a piece of the same value
pub IsWith-widened : {P S : Type 0} (number_of : P → ℕ) (IsWell : S → Type 0) (pieces front : List (Piece P S)) (last next : Piece P S) → pieces ≡ front ++ last ∷ [] → last.value ≡ next.value →
    IsWith number_of IsWell pieces next (front ++ widened last next.hi ∷ [])
IsWith-widened number_of IsWell pieces front last next is same filled well from are =
    let parts = rw is at are in
    let ends = ArePieces-last number_of IsWell from (number_of next.lo) None front last parts in
    record {
      order = ArePieces-widened number_of IsWell from (number_of next.lo) None front last next.hi parts filled;
      before = λ n below. rw is (value_at-widened number_of front last next.hi n (omega (arith, ends.1)) (omega arith));
      within = λ n above below. widened_within number_of IsWell from (number_of next.lo) front last next.hi n parts above (omega arith) ∙ ap (λ value. Some value) same;
    }

-- sets that a spot tells apart are not equal
pub differs_by_spot : {S T : Type 0} (has : S → T → Bool) (a b : S) (spot : T) → has a spot ≡ not (has b spot) → a ≢ b
differs_by_spot has a b spot apart same = not_itself (has b spot) (sym (ap (λ value. has value spot) same) ∙ apart)
