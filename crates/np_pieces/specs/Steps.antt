-- Steps of one pass over two lists of pieces.
use Rattle.std.specs.Prelude.{ℕ, ◌≡◌, ◌+◌, ◌<◌, ◌≤◌, max, List, [], ◌∷◌, length, Some, None}
use Rattle.np_pieces.specs.Types.{Piece}
use Rattle.np_pieces.specs.Pieces.{value_at, ArePieces}

-- Both pieces have the number `from`, where the later of them begins, and the pieces after them go on to the end.
pub record AreBothAt {P S : Type 0} (number_of : P → ℕ) (IsWell : S → Type 0) (from to : ℕ) (first second : Piece P S) (first_rest second_rest : List (Piece P S)) : Type 0 where
  pub start : max (number_of first.lo) (number_of second.lo) ≡ from
  pub first_on : from ≤ number_of first.hi
  pub second_on : from ≤ number_of second.hi
  pub first_after : ArePieces number_of IsWell (number_of first.hi + 1) to (Some first.value) first_rest
  pub second_after : ArePieces number_of IsWell (number_of second.hi + 1) to (Some second.value) second_rest

-- Two lists of pieces that go on from the number `from` to the one before `to`.
abbrev pub GoOn : {P S : Type 0} → (P → ℕ) → (S → Type 0) → ℕ → ℕ → List (Piece P S) → List (Piece P S) → Type 0
GoOn number_of IsWell from to [] [] = from ≡ to
GoOn number_of IsWell from to [] (second ∷ second_rest) = ⊥
GoOn number_of IsWell from to (first ∷ first_rest) [] = ⊥
GoOn number_of IsWell from to (first ∷ first_rest) (second ∷ second_rest) = AreBothAt number_of IsWell from to first second first_rest second_rest

-- The numbers from `lo` to `hi` have one value in each of two lists, and the other lists go on past them.
pub record IsShared {P S : Type 0} (number_of : P → ℕ) (IsWell : S → Type 0) (from to : ℕ) (left right : List (Piece P S)) (lo hi : P) (first second : S) (left_rest right_rest : List (Piece P S)) : Type 0 where
  pub start : number_of lo ≡ from
  pub filled : from ≤ number_of hi
  pub ends : number_of hi < to
  pub goes_on : GoOn number_of IsWell (number_of hi + 1) to left_rest right_rest
  pub first_value : (n : ℕ) → from ≤ n → n ≤ number_of hi → value_at number_of left n ≡ Some first
  pub second_value : (n : ℕ) → from ≤ n → n ≤ number_of hi → value_at number_of right n ≡ Some second
  pub left_after : (n : ℕ) → number_of hi < n → value_at number_of left n ≡ value_at number_of left_rest n
  pub right_after : (n : ℕ) → number_of hi < n → value_at number_of right n ≡ value_at number_of right_rest n

-- What the first pieces of two lists share, where the lists go on from some number.
pub record IsOverlap {P S : Type 0} (number_of : P → ℕ) (IsWell : S → Type 0) (left right : List (Piece P S)) (lo hi : P) (first second : S) (left_rest right_rest : List (Piece P S)) : Type 0 where
  pub shorter : length left_rest + length right_rest < length left + length right
  pub shared : (from to : ℕ) → GoOn number_of IsWell from to left right → IsShared number_of IsWell from to left right lo hi first second left_rest right_rest

-- What is made has one value more, from the number `from` to the one before `to`, past the pieces that begin at `low`.
pub record IsGrown {P S : Type 0} (number_of : P → ℕ) (IsWell : S → Type 0) (low from to : ℕ) (value : S) (pieces made : List (Piece P S)) : Type 0 where
  pub order : ArePieces number_of IsWell low to None made
  pub before : (n : ℕ) → n < from → value_at number_of made n ≡ value_at number_of pieces n
  pub within : (n : ℕ) → from ≤ n → n < to → value_at number_of made n ≡ Some value

-- Where pieces end before the number `from`, what is made has one value more from there to the one before `to`.
abbrev pub GrowsTo : {P S : Type 0} → (P → ℕ) → (S → Type 0) → ℕ → ℕ → S → List (Piece P S) → List (Piece P S) → Type 0
GrowsTo number_of IsWell from to value pieces made = (low : ℕ) → ArePieces number_of IsWell low from None pieces → IsGrown number_of IsWell low from to value pieces made

-- Where a well-formed piece follows others, what is made has its value more.
abbrev pub IsWith : {P S : Type 0} → (P → ℕ) → (S → Type 0) → List (Piece P S) → Piece P S → List (Piece P S) → Type 0
IsWith number_of IsWell pieces next made = number_of next.lo ≤ number_of next.hi → IsWell next.value → GrowsTo number_of IsWell (number_of next.lo) (number_of next.hi + 1) next.value pieces made
