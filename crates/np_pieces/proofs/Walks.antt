-- One pass over two lists of pieces. For `combine_pieces` and `same_pieces`.
use Rattle.std.proofs.Common.{◌≡◌, ℕ, ◌+◌, ◌<◌, ◌≤◌, List, [], None, Bool, false, refl, sym, ◌∙◌, arith, inl, inr}
use Rattle.std.proofs.lemmas.Bool.{cases_lt}
use Rattle.np_pieces.specs.Prelude.{ArePieces, Covers, GoOn, GrowsTo, IsShared, Join, Meet, Minus, Operation, Piece, has_at, holds_after, value_at, value_at-before, value_at-past}
use Rattle.np_pieces.proofs.Overlaps.{GoOn-both}

-- The rests of two lists go on from the number `from`, and have the lists' values from there.
pub record IsWalked {P S : Type 0} (number_of : P → ℕ) (IsWell : S → Type 0) (from to : ℕ) (all_left all_right left right : List (Piece P S)) : Type 0 where
  pub on : GoOn number_of IsWell from to left right
  pub left_values : (n : ℕ) → from ≤ n → value_at number_of all_left n ≡ value_at number_of left n
  pub right_values : (n : ℕ) → from ≤ n → value_at number_of all_right n ≡ value_at number_of right n

-- as the walk begins
pub IsWalked-init : {P S : Type 0} (number_of : P → ℕ) (IsWell : S → Type 0) (low high : ℕ) (left right : List (Piece P S)) → Covers number_of IsWell low high left →
    Covers number_of IsWell low high right → IsWalked number_of IsWell low (high + 1) left right left right
IsWalked-init number_of IsWell low high left right in_left in_right = record {
  on = GoOn-both number_of IsWell low (high + 1) None None left right in_left in_right;
  left_values = λ n above. refl;
  right_values = λ n above. refl;
}

-- past an overlap
pub IsWalked-next : {P S : Type 0} (number_of : P → ℕ) (IsWell : S → Type 0) (from to : ℕ) (all_left all_right left right : List (Piece P S)) (lo hi : P) (first second : S)
    (left_rest right_rest : List (Piece P S)) →
    IsWalked number_of IsWell from to all_left all_right left right → IsShared number_of IsWell from to left right lo hi first second left_rest right_rest →
    IsWalked number_of IsWell (number_of hi + 1) to all_left all_right left_rest right_rest
IsWalked-next number_of IsWell from to all_left all_right left right lo hi first second left_rest right_rest walked shared = record {
  on = shared.goes_on;
  left_values = λ n past. walked.left_values n (omega (arith, shared.filled)) ∙ shared.left_after n (omega arith);
  right_values = λ n past. walked.right_values n (omega (arith, shared.filled)) ∙ shared.right_after n (omega arith);
}

-- What is made up to the number `from` has the spots that the operation leaves.
pub record IsCombined {P S T : Type 0} (number_of : P → ℕ) (IsWell : S → Type 0) (has : S → T → Bool) (operation : Operation) (low from : ℕ) (all_left all_right made : List (Piece P S)) : Type 0 where
  pub pieces : ArePieces number_of IsWell low from None made
  pub members : (n : ℕ) → n < from → (spot : T) → has_at number_of has made n spot ≡ holds_after operation (has_at number_of has all_left n spot) (has_at number_of has all_right n spot)

-- no operation makes a spot of nothing
neither : (operation : Operation) → holds_after operation false false ≡ false
neither Join = refl
neither Meet = refl
neither Minus = refl

no_value : {P S T : Type 0} (number_of : P → ℕ) (has : S → T → Bool) (operation : Operation) (left right made : List (Piece P S)) (n : ℕ) (spot : T) → value_at number_of left n ≡ None →
    value_at number_of right n ≡ None → value_at number_of made n ≡ None →
    has_at number_of has made n spot ≡ holds_after operation (has_at number_of has left n spot) (has_at number_of has right n spot)
no_value number_of has operation left right made n spot no_left no_right none = rw (no_left, no_right, none) (sym (neither operation))

pub IsCombined-init : {P S T : Type 0} (number_of : P → ℕ) (IsWell : S → Type 0) (has : S → T → Bool) (operation : Operation) (low high : ℕ) (left right made : List (Piece P S)) →
    Covers number_of IsWell low high left → Covers number_of IsWell low high right → made ≡ [] → IsCombined number_of IsWell has operation low low left right made
IsCombined-init number_of IsWell has operation low high left right made in_left in_right none = record {
  pieces = rw none refl;
  members = λ n below spot. no_value number_of has operation left right made n spot (value_at-before number_of IsWell low (high + 1) None left n in_left below)
      (value_at-before number_of IsWell low (high + 1) None right n in_right below) (rw none);
}

-- an overlap more
pub IsCombined-next : {P S T : Type 0} (number_of : P → ℕ) (IsWell : S → Type 0) (has : S → T → Bool) (operation : Operation) (low from to : ℕ) (all_left all_right left right : List (Piece P S))
    (lo hi : P) (first second value : S) (left_rest right_rest made made_after : List (Piece P S)) →
    IsWalked number_of IsWell from to all_left all_right left right → IsShared number_of IsWell from to left right lo hi first second left_rest right_rest →
    IsCombined number_of IsWell has operation low from all_left all_right made → ((spot : T) → has value spot ≡ holds_after operation (has first spot) (has second spot)) →
    GrowsTo number_of IsWell from (number_of hi + 1) value made made_after → IsCombined number_of IsWell has operation low (number_of hi + 1) all_left all_right made_after
IsCombined-next number_of IsWell has operation low from to all_left all_right left right lo hi first second value left_rest right_rest made made_after walked shared combined members grows =
    let grown = grows low combined.pieces in
    record {
      pieces = grown.order;
      members = λ n below spot. elim (cases_lt n from) [
        | inl before ↦ rw (grown.before n before) (combined.members n before spot)
        | inr within ↦ rw (
          grown.within n within below,
          walked.left_values n within,
          walked.right_values n within,
          shared.first_value n within (omega arith),
          shared.second_value n within
              (omega arith),
        ) (members spot)
      ];
    }

-- at the end of the space
pub IsCombined-members : {P S T : Type 0} (number_of : P → ℕ) (IsWell : S → Type 0) (has : S → T → Bool) (operation : Operation) (low high from : ℕ) (left right made : List (Piece P S)) →
    Covers number_of IsWell low high left → Covers number_of IsWell low high right → from ≡ high + 1 → IsCombined number_of IsWell has operation low from left right made → (n : ℕ) (spot : T) →
    has_at number_of has made n spot ≡ holds_after operation (has_at number_of has left n spot) (has_at number_of has right n spot)
IsCombined-members number_of IsWell has operation low high from left right made in_left in_right ended combined n spot =
    elim (cases_lt n from) [
      | inl before ↦ combined.members n before spot
      | inr past ↦ no_value number_of has operation left right made n spot (value_at-past number_of IsWell low (high + 1) None left n in_left (omega arith))
          (value_at-past number_of IsWell low (high + 1) None right n in_right (omega arith)) (value_at-past number_of IsWell low from None made n combined.pieces past)
    ]

pub IsCombined-covers : {P S T : Type 0} (number_of : P → ℕ) (IsWell : S → Type 0) (has : S → T → Bool) (operation : Operation) (low high from : ℕ) (left right made : List (Piece P S)) →
    from ≡ high + 1 → IsCombined number_of IsWell has operation low from left right made → Covers number_of IsWell low high made
IsCombined-covers number_of IsWell has operation low high from left right made ended combined = rw (← ended) combined.pieces
