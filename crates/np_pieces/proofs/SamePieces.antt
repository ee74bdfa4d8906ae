-- Lists of pieces with the same values, and with others. For `same_pieces`.
use Rattle.std.proofs.Common.{◌≡◌, ℕ, ◌+◌, ◌<◌, ◌≤◌, List, None, Bool, not, sym, ◌∙◌, ap, arith, inl, inr}
use Rattle.std.proofs.lemmas.Bool.{cases_lt}
use Rattle.np_pieces.specs.Prelude.{At, Covers, IsShared, Piece, has_spot, same_values_same_pieces, value_at}
use Rattle.np_pieces.proofs.Walks.{IsWalked}

-- two lists have the same values before a number
abbrev pub AreSameBefore : {P S : Type 0} → (P → ℕ) → ℕ → ℕ → List (Piece P S) → List (Piece P S) → Type 0
AreSameBefore number_of low from left right = (n : ℕ) → low ≤ n → n < from → value_at number_of left n ≡ value_at number_of right n

-- an overlap of one value more
pub AreSameBefore-next : {P S : Type 0} (number_of : P → ℕ) (IsWell : S → Type 0) (low from to : ℕ) (all_left all_right left right : List (Piece P S)) (lo hi : P) (first second : S)
    (left_rest right_rest : List (Piece P S)) →
    IsWalked number_of IsWell from to all_left all_right left right → IsShared number_of IsWell from to left right lo hi first second left_rest right_rest → first ≡ second →
    AreSameBefore number_of low from all_left all_right → AreSameBefore number_of low (number_of hi + 1) all_left all_right
AreSameBefore-next number_of IsWell low from to all_left all_right left right lo hi first second left_rest right_rest walked shared same before n above below =
    elim (cases_lt n from) [
      | inl early ↦ before n above early
      | inr within ↦ rw (walked.left_values n within, walked.right_values n within, shared.first_value n within (omega arith), shared.second_value n within (omega arith), same)
    ]

-- an overlap whose values a spot tells apart
pub apart_at_overlap : {P S T : Type 0} (number_of : P → ℕ) (IsWell : S → Type 0) (has : S → T → Bool) (from to : ℕ) (all_left all_right left right : List (Piece P S)) (lo hi : P) (first second : S)
    (left_rest right_rest : List (Piece P S)) →
    IsWalked number_of IsWell from to all_left all_right left right → IsShared number_of IsWell from to left right lo hi first second left_rest right_rest →
    (spot : T) × (has first spot ≡ not (has second spot)) → (place : At P T) × (has_spot number_of has all_left place ≡ not (has_spot number_of has all_right place))
apart_at_overlap number_of IsWell has from to all_left all_right left right lo hi first second left_rest right_rest walked shared (spot, apart) = (
  record { point = lo; spot = spot },
  rw (
    walked.left_values (number_of lo) (omega (arith, shared.start)),
    walked.right_values (number_of lo) (omega (arith, shared.start)),
    shared.first_value
        (number_of lo) (omega (arith, shared.start)) (omega (arith, shared.start, shared.filled)),
    shared.second_value (number_of lo) (omega (arith, shared.start))
        (omega (arith, shared.start, shared.filled)),
  ) apart,
)

-- lists with the same values up to the end are equal
pub same_before_end : {P S : Type 0} (number_of : P → ℕ) (point_of : ℕ → P) (IsWell : S → Type 0) (low high from : ℕ) →
    ((p : P) → low ≤ number_of p → number_of p ≤ high → point_of (number_of p) ≡ p) → (left right : List (Piece P S)) → Covers number_of IsWell low high left → Covers number_of IsWell low high right →
    from ≡ high + 1 → AreSameBefore number_of low from left right → left ≡ right
same_before_end {P} {S} number_of point_of IsWell low high from point_of_number left right in_left in_right ended same =
    let one : (p q : P) → low ≤ number_of p → number_of p < high + 1 → number_of p ≡ number_of q → p ≡ q = λ p q above below alike. sym (point_of_number p above (omega arith)) ∙ ap point_of alike
    ∙ point_of_number q (omega arith) (omega arith) in
    same_values_same_pieces number_of IsWell low (high + 1) one low None None left right (omega arith) in_left in_right (λ n above below. same n above (omega arith))
