-- Steps of one pass over two lists of pieces. For `take_overlap`.
use Rattle.std.proofs.Common.{◌≡◌, ℕ, ◌+◌, ◌<◌, ◌≤◌, min, max, List, [], ◌∷◌, length, Option, Some, arith, inl, inr}
use Rattle.std.proofs.lemmas.Bool.{cases_lt, cases_order}
use Rattle.np_pieces.specs.Prelude.{AreBothAt, ArePieces, ArePieces-ordered, GoOn, IsOverlap, Piece, value_at, value_at-first, value_at-rest}

-- two lists that begin at one number go on from there
pub GoOn-both : {P S : Type 0} (number_of : P → ℕ) (IsWell : S → Type 0) (from to : ℕ) (before before' : Option S) (left right : List (Piece P S)) → ArePieces number_of IsWell from to before left →
    ArePieces number_of IsWell from to before' right → GoOn number_of IsWell from to left right
GoOn-both number_of IsWell from to before before' [] [] in_left in_right = in_left
GoOn-both number_of IsWell from to before before' [] (second ∷ second_rest) in_left in_right =
    omega (arith, in_right.0.filled, ArePieces-ordered number_of IsWell (number_of second.hi + 1) to (Some second.value) second_rest in_right.1)
GoOn-both number_of IsWell from to before before' (first ∷ first_rest) [] in_left in_right =
    omega (arith, in_left.0.filled, ArePieces-ordered number_of IsWell (number_of first.hi + 1) to (Some first.value) first_rest in_left.1)
GoOn-both number_of IsWell from to before before' (first ∷ first_rest) (second ∷ second_rest) in_left in_right = record {
  start = omega (arith, in_left.0.start, in_right.0.start);
  first_on = in_left.0.filled;
  second_on = in_right.0.filled;
  first_after = in_left.1;
  second_after = in_right.1;
}

-- the other way round
GoOn-flipped : {P S : Type 0} (number_of : P → ℕ) (IsWell : S → Type 0) (from to : ℕ) (left right : List (Piece P S)) → GoOn number_of IsWell from to left right →
    GoOn number_of IsWell from to right left
GoOn-flipped number_of IsWell from to [] [] on = on
GoOn-flipped number_of IsWell from to [] (second ∷ second_rest) on = on
GoOn-flipped number_of IsWell from to (first ∷ first_rest) [] on = on
GoOn-flipped number_of IsWell from to (first ∷ first_rest) (second ∷ second_rest) on = record {
  start = omega (arith, on.start);
  first_on = on.second_on;
  second_on = on.first_on;
  first_after = on.second_after;
  second_after = on.first_after;
}

-- where the first piece of one list ends before that of the other, the other goes on in its piece
GoOn-ended : {P S : Type 0} (number_of : P → ℕ) (IsWell : S → Type 0) (from to : ℕ) (before : Option S) (left : List (Piece P S)) (second : Piece P S) (second_rest : List (Piece P S)) →
    ArePieces number_of IsWell from to before left → number_of second.lo ≤ from → from ≤ number_of second.hi → ArePieces number_of IsWell (number_of second.hi + 1) to (Some second.value) second_rest →
    GoOn number_of IsWell from to left (second ∷ second_rest)
GoOn-ended number_of IsWell from to before [] second second_rest in_left start on after =
    omega (arith, ArePieces-ordered number_of IsWell (number_of second.hi + 1) to (Some second.value) second_rest after)
GoOn-ended number_of IsWell from to before (first ∷ first_rest) second second_rest in_left start on after = record {
  start = omega (arith, in_left.0.start);
  first_on = in_left.0.filled;
  second_on = on;
  first_after = in_left.1;
  second_after = after;
}

-- What is left of a list past the number `hi` of its first piece.
pub record IsPast {P S : Type 0} (number_of : P → ℕ) (hi : ℕ) (first : Piece P S) (rest after : List (Piece P S)) : Type 0 where
  pub ended : number_of first.hi ≤ hi → after ≡ rest
  pub going : hi < number_of first.hi → after ≡ first ∷ rest

value_at-past_hi : {P S : Type 0} (number_of : P → ℕ) (hi : ℕ) (first : Piece P S) (rest after : List (Piece P S)) → IsPast number_of hi first rest after → (n : ℕ) → hi < n →
    value_at number_of (first ∷ rest) n ≡ value_at number_of after n
value_at-past_hi {P} {S} number_of hi first rest after past n above =
    elim (cases_lt hi (number_of first.hi)) [
      | inl going ↦ rw (past.going going)
      | inr ended ↦ rw (past.ended ended) (value_at-rest number_of first rest n (omega arith))
    ]

goes_on : {P S : Type 0} (number_of : P → ℕ) (IsWell : S → Type 0) (from to hi : ℕ) (first second : Piece P S) (first_rest second_rest left right : List (Piece P S)) →
    AreBothAt number_of IsWell from to first second first_rest second_rest → hi ≡ min (number_of first.hi) (number_of second.hi) → IsPast number_of hi first first_rest left →
    IsPast number_of hi second second_rest right → GoOn number_of IsWell (hi + 1) to left right
goes_on number_of IsWell from to hi first second first_rest second_rest left right both is_hi left_past right_past =
    elim (cases_order (number_of first.hi) (number_of second.hi)) [
      | inl together ↦
          let ends : hi ≡ number_of first.hi = omega arith in
          rw (left_past.ended (omega arith), right_past.ended (omega arith), ends)
          (GoOn-both number_of IsWell (number_of first.hi + 1) to (Some first.value) (Some second.value) first_rest second_rest both.first_after (rw (← together) at both.second_after))
      | inr (inl before) ↦
          let ends : hi ≡ number_of first.hi = omega arith in
          rw (left_past.ended (omega arith), right_past.going (omega arith), ends)
          (GoOn-ended number_of IsWell (number_of first.hi + 1) to (Some first.value) first_rest second second_rest both.first_after (omega (arith, both.start, both.first_on))
          (omega arith) both.second_after)
      | inr (inr after) ↦
          let ends : hi ≡ number_of second.hi = omega arith in
          rw (left_past.going (omega arith), right_past.ended (omega arith), ends)
          (GoOn-flipped number_of IsWell (number_of second.hi + 1) to second_rest (first ∷ first_rest)
          (GoOn-ended number_of IsWell (number_of second.hi + 1) to (Some second.value) second_rest first first_rest both.second_after (omega (arith, both.start, both.second_on))
          (omega arith) both.first_after))
    ]

shorter : {P S : Type 0} (number_of : P → ℕ) (hi : ℕ) (first second : Piece P S) (first_rest second_rest left right : List (Piece P S)) → hi ≡ min (number_of first.hi) (number_of second.hi) →
    IsPast number_of hi first first_rest left → IsPast number_of hi second second_rest right → length left + length right < length (first ∷ first_rest) + length (second ∷ second_rest)
shorter number_of hi first second first_rest second_rest left right is_hi left_past right_past =
    elim (cases_order (number_of first.hi) (number_of second.hi)) [
      | inl together ↦ rw (left_past.ended (omega arith), right_past.ended (omega arith)) (omega arith)
      | inr (inl before) ↦ rw (left_past.ended (omega arith), right_past.going (omega arith)) (omega arith)
      | inr (inr after) ↦ rw (left_past.going (omega arith), right_past.ended (omega arith)) (omega arith)
    ]

-- the overlap of two first pieces
pub IsOverlap-first : {P S : Type 0} (number_of : P → ℕ) (IsWell : S → Type 0) (left right : List (Piece P S)) (first second : Piece P S) (first_rest second_rest : List (Piece P S)) (lo hi : P)
    (left_after right_after : List (Piece P S)) →
    left ≡ first ∷ first_rest → right ≡ second ∷ second_rest → number_of lo ≡ max (number_of first.lo) (number_of second.lo) → number_of hi ≡ min (number_of first.hi) (number_of second.hi) →
    IsPast number_of (number_of hi) first first_rest left_after → IsPast number_of (number_of hi) second second_rest right_after →
    IsOverlap number_of IsWell left right lo hi first.value second.value left_after right_after
IsOverlap-first number_of IsWell left right first second first_rest second_rest lo hi left_after right_after is_left is_right is_lo is_hi left_past right_past = record {
  shorter = rw (is_left, is_right) (shorter number_of (number_of hi) first second first_rest second_rest left_after right_after is_hi left_past right_past);
  shared = λ from to on.
      let both = rw (is_left, is_right) at on in
      record {
        start = omega (arith, both.start);
        filled = omega (arith, both.first_on, both.second_on);
        ends = omega (arith, ArePieces-ordered number_of IsWell (number_of first.hi + 1) to (Some first.value) first_rest both.first_after);
        goes_on = goes_on number_of IsWell from to (number_of hi) first second first_rest second_rest left_after right_after both is_hi left_past right_past;
        first_value = λ n above below. rw is_left (value_at-first number_of first first_rest n (omega (arith, both.start)) (omega arith));
        second_value = λ n above below. rw is_right (value_at-first number_of second second_rest n (omega (arith, both.start)) (omega arith));
        left_after = λ n past. rw is_left (value_at-past_hi number_of (number_of hi) first first_rest left_after left_past n past);
        right_after = λ n past. rw is_right (value_at-past_hi number_of (number_of hi) second second_rest right_after right_past n past);
      };
}
