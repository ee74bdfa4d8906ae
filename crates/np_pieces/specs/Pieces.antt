-- Lists of pieces, each with one value at all of its points, by a function from points to numbers.
use Rattle.std.specs.Prelude.{ℕ, ◌≡◌, ◌≢◌, ◌+◌, ◌≤◌, List, [], ◌∷◌, Bool, false, ◌&&◌, nat_le, Option, Some, None, if◌then◌else◌}
use Rattle.np_pieces.specs.Types.{At, Piece}

-- whether a number is in the piece, ends included
abbrev pub is_in : {P S : Type 0} → (P → ℕ) → Piece P S → ℕ → Bool
is_in number_of piece n = nat_le (number_of piece.lo) n && nat_le n (number_of piece.hi)

-- the value at a number: that of the piece that has it
abbrev pub value_at : {P S : Type 0} → (P → ℕ) → List (Piece P S) → ℕ → Option S
value_at number_of [] n = None
value_at number_of (piece ∷ pieces) n = if is_in number_of piece n then Some piece.value else value_at number_of pieces n

-- whether there is a value, and it has the spot
abbrev pub value_has : {S T : Type 0} → (S → T → Bool) → Option S → T → Bool
value_has has None spot = false
value_has has (Some value) spot = has value spot

-- whether the value at a number has the spot
abbrev pub has_at : {P S T : Type 0} → (P → ℕ) → (S → T → Bool) → List (Piece P S) → ℕ → T → Bool
has_at number_of has pieces n spot = value_has has (value_at number_of pieces n) spot

-- whether the value at a point has a spot, for the two as one spot
abbrev pub has_spot : {P S T : Type 0} → (P → ℕ) → (S → T → Bool) → List (Piece P S) → At P T → Bool
has_spot number_of has pieces place = has_at number_of has pieces (number_of place.point) place.spot

-- The piece begins at the number `from` and has it, its value is well formed, and it is not the value `before` it.
pub record IsNext {P S : Type 0} (number_of : P → ℕ) (IsWell : S → Type 0) (from : ℕ) (before : Option S) (piece : Piece P S) : Type 0 where
  pub start : number_of piece.lo ≡ from
  pub filled : from ≤ number_of piece.hi
  pub well : IsWell piece.value
  pub differs : before ≢ Some piece.value

-- The pieces have the numbers from `from` to the one before `to`, each once and in ascending order, their values are
-- well formed, and each differs from the one before it.
abbrev pub ArePieces : {P S : Type 0} → (P → ℕ) → (S → Type 0) → ℕ → ℕ → Option S → List (Piece P S) → Type 0
ArePieces number_of IsWell from to before [] = from ≡ to
ArePieces number_of IsWell from to before (piece ∷ pieces) = IsNext number_of IsWell from before piece × ArePieces number_of IsWell (number_of piece.hi + 1) to (Some piece.value) pieces

-- The pieces cover the numbers from `low` to `high` without gap or overlap, and neighbours have unequal values.
abbrev pub Covers : {P S : Type 0} → (P → ℕ) → (S → Type 0) → ℕ → ℕ → List (Piece P S) → Type 0
Covers number_of IsWell low high pieces = ArePieces number_of IsWell low (high + 1) None pieces
