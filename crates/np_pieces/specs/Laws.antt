-- Laws of lists of pieces.
use Rattle.std.proofs.Common.{◌≡◌, ℕ, ◌+◌, ◌<◌, ◌≤◌, List, [], ◌∷◌, Option, Some, None, IsSome, Bool, true, false, ◌&&◌, if◌then◌else◌, refl, sym, subst, ◌∙◌, ap, arith, inl, inr}
use Rattle.std.proofs.lemmas.Bool.{and_from, cases_order, cases_lt, le-leb, false≢true}
use Rattle.np_base.proofs.Options.{some_is}
use Rattle.np_sets.specs.Space.{is_between}
use Rattle.np_pieces.specs.Types.{At, Piece}
use Rattle.np_pieces.specs.Pieces.{is_in, value_at, value_has, has_at, has_spot, ArePieces, Covers}
use Rattle.np_pieces.specs.Values.{value_at-first, value_at-rest, value_at-before, value_at-past, ArePieces-ordered}

-- where there is a value, it is well formed
pub IsWell-value_at : {P S : Type 0} (number_of : P → ℕ) (IsWell : S → Type 0) (from to : ℕ) (before : Option S) (pieces : List (Piece P S)) (n : ℕ) (value : S) → ArePieces number_of IsWell from to before pieces → value_at number_of pieces n ≡ Some value → IsWell value
IsWell-value_at number_of IsWell from to before [] n value are is = cc
IsWell-value_at {P} {S} number_of IsWell from to before (piece ∷ pieces) n value are is =
    elim (is_in number_of piece n) as (λ within. (if within then Some piece.value else value_at number_of pieces n) ≡ Some value → IsWell value) [
      | true ↦ λ first. subst IsWell (cc) are.0.well
      | false ↦ λ later. IsWell-value_at number_of IsWell (number_of piece.hi + 1) to (Some piece.value) pieces n value are.1 later
    ] is

in_space_of : {S T : Type 0} (IsWell : S → Type 0) (has : S → T → Bool) (in_space : T → Bool) (space : Bool) (found : Option S) (spot : T) → ((value : S) → found ≡ Some value → (IsWell value) × (space ≡ true)) → ((set : S) (spot : T) → IsWell set → has set spot ≡ true → in_space spot ≡ true) → value_has has found spot ≡ true → (space && in_space spot) ≡ true
in_space_of IsWell has in_space space None spot parts members held = absurd (false≢true held)
in_space_of IsWell has in_space space (Some value) spot parts members held =
    let both = parts value refl in
    and_from _ _ both.1 (members value spot both.0 held)

-- where there is a value, the number is of the space
is_between-value_at : {P S : Type 0} (number_of : P → ℕ) (IsWell : S → Type 0) (low high : ℕ) (pieces : List (Piece P S)) (n : ℕ) (value : S) → Covers number_of IsWell low high pieces → value_at number_of pieces n ≡ Some value → is_between low high n ≡ true
is_between-value_at {P} {S} number_of IsWell low high pieces n value covers is =
    let nothing : value_at number_of pieces n ≡ None → is_between low high n ≡ true = λ none. cc in
    elim (cases_lt n low) [
      | inl before ↦ nothing (value_at-before number_of IsWell low (high + 1) None pieces n covers before)
      | inr above ↦ elim (cases_lt high n) [
        | inl past ↦ nothing (value_at-past number_of IsWell low (high + 1) None pieces n covers (omega arith))
        | inr below ↦ and_from _ _ (le-leb low n above) (le-leb n high below)
      ]
    ]

-- pieces have only spots of the space
pub has_spot-in_space : {P S T : Type 0} (number_of : P → ℕ) (IsWell : S → Type 0) (has : S → T → Bool) (in_space : T → Bool) (low high : ℕ) → ((set : S) (spot : T) → IsWell set → has set spot ≡ true → in_space spot ≡ true) → (pieces : List (Piece P S)) (place : At P T) → Covers number_of IsWell low high pieces → has_spot number_of has pieces place ≡ true → (is_between low high (number_of place.point) && in_space place.spot) ≡ true
has_spot-in_space number_of IsWell has in_space low high members pieces place covers held =
    let n = number_of place.point in
    in_space_of IsWell has in_space (is_between low high n) (value_at number_of pieces n) place.spot (λ value is. (IsWell-value_at number_of IsWell low (high + 1) None pieces n value covers is, is_between-value_at number_of IsWell low high pieces n value covers is)) members held

-- of two lists with the same values, the first piece of one does not end before that of the other
no_earlier_end : {P S : Type 0} (number_of : P → ℕ) (IsWell : S → Type 0) (from to : ℕ) (a : Piece P S) (a_rest : List (Piece P S)) (b : Piece P S) (b_rest : List (Piece P S)) → from ≤ number_of a.hi → number_of b.lo ≡ from → a.value ≡ b.value → ArePieces number_of IsWell (number_of a.hi + 1) to (Some a.value) a_rest → ArePieces number_of IsWell (number_of b.hi + 1) to (Some b.value) b_rest → ((n : ℕ) → from ≤ n → n < to → value_at number_of (a ∷ a_rest) n ≡ value_at number_of (b ∷ b_rest) n) → number_of a.hi < number_of b.hi → ⊥
no_earlier_end number_of IsWell from to a [] b b_rest filled start same in_a in_b alike earlier =
    omega (arith, ArePieces-ordered number_of IsWell (number_of b.hi + 1) to (Some b.value) b_rest in_b)
no_earlier_end number_of IsWell from to a (next ∷ a_rest) b b_rest filled start same in_a in_b alike earlier =
    let n = number_of a.hi + 1 in
    let more = ArePieces-ordered number_of IsWell (number_of b.hi + 1) to (Some b.value) b_rest in_b in
    let of_next = value_at-rest number_of a (next ∷ a_rest) n (omega arith) ∙ value_at-first number_of next a_rest n (omega (arith, in_a.0.start)) (omega (arith, in_a.0.filled)) in
    let of_b = value_at-first number_of b b_rest n (omega arith) (omega arith) in
    in_a.0.differs (ap (λ value. Some value) same ∙ sym of_b ∙ sym (alike n (omega arith) (omega (arith, more))) ∙ of_next)

equal_pieces : {P S : Type 0} (a b : Piece P S) → a.lo ≡ b.lo → a.hi ≡ b.hi → a.value ≡ b.value → a ≡ b
equal_pieces {P} {S} a b lo hi value =
    let with_lo : P → Piece P S = λ p. record { lo = p; hi = a.hi; value = a.value } in
    let with_hi : P → Piece P S = λ p. record { lo = b.lo; hi = p; value = a.value } in
    let with_value : S → Piece P S = λ s. record { lo = b.lo; hi = b.hi; value = s } in
    ap with_lo lo ∙ ap with_hi hi ∙ ap with_value value

-- Two lists of pieces with the same values are equal, where points of one number are.
pub same_values_same_pieces : {P S : Type 0} (number_of : P → ℕ) (IsWell : S → Type 0) (low to : ℕ) → ((p q : P) → low ≤ number_of p → number_of p < to → number_of p ≡ number_of q → p ≡ q) → (from : ℕ) (before before' : Option S) (a_all b_all : List (Piece P S)) → low ≤ from → ArePieces number_of IsWell from to before a_all → ArePieces number_of IsWell from to before' b_all → ((n : ℕ) → from ≤ n → n < to → value_at number_of a_all n ≡ value_at number_of b_all n) → a_all ≡ b_all
same_values_same_pieces number_of IsWell low to one from before before' [] [] above in_a in_b alike = refl
same_values_same_pieces number_of IsWell low to one from before before' [] (b ∷ b_rest) above in_a in_b alike =
    absurd (omega (arith, in_b.0.filled, ArePieces-ordered number_of IsWell (number_of b.hi + 1) to (Some b.value) b_rest in_b.1))
same_values_same_pieces number_of IsWell low to one from before before' (a ∷ a_rest) [] above in_a in_b alike =
    absurd (omega (arith, in_a.0.filled, ArePieces-ordered number_of IsWell (number_of a.hi + 1) to (Some a.value) a_rest in_a.1))
same_values_same_pieces {P} {S} number_of IsWell low to one from before before' (a ∷ a_rest) (b ∷ b_rest) above in_a in_b alike =
    let a_ends = ArePieces-ordered number_of IsWell (number_of a.hi + 1) to (Some a.value) a_rest in_a.1 in
    let b_ends = ArePieces-ordered number_of IsWell (number_of b.hi + 1) to (Some b.value) b_rest in_b.1 in
    let a_first = value_at-first number_of a a_rest from (omega (arith, in_a.0.start)) in_a.0.filled in
    let b_first = value_at-first number_of b b_rest from (omega (arith, in_b.0.start)) in_b.0.filled in
    let same : a.value ≡ b.value = some_is _ _ (sym a_first ∙ alike from (omega arith) (omega (arith, in_a.0.filled)) ∙ b_first) in
    let flipped : (n : ℕ) → from ≤ n → n < to → value_at number_of (b ∷ b_rest) n ≡ value_at number_of (a ∷ a_rest) n = λ n up down. sym (alike n up down) in
    let end : number_of a.hi ≡ number_of b.hi = elim (cases_order (number_of a.hi) (number_of b.hi)) [
      | inl equal ↦ equal
      | inr (inl earlier) ↦ absurd (no_earlier_end number_of IsWell from to a a_rest b b_rest in_a.0.filled in_b.0.start same in_a.1 in_b.1 alike earlier)
      | inr (inr later) ↦ absurd (no_earlier_end number_of IsWell from to b b_rest a a_rest in_b.0.filled in_a.0.start (sym same) in_b.1 in_a.1 flipped later)
    ] in
    let first : a ≡ b = equal_pieces a b (one a.lo b.lo (omega (arith, in_a.0.start)) (omega (arith, in_a.0.start, in_a.0.filled)) (in_a.0.start ∙ sym in_b.0.start)) (one a.hi b.hi (omega (arith, in_a.0.filled)) (omega arith) end) same in
    let rest_alike : (n : ℕ) → number_of a.hi + 1 ≤ n → n < to → value_at number_of a_rest n ≡ value_at number_of b_rest n = λ n up down.
    sym (value_at-rest number_of a a_rest n (omega arith)) ∙ alike n (omega (arith, in_a.0.filled)) down ∙ value_at-rest number_of b b_rest n (omega arith) in
    let rest : a_rest ≡ b_rest = same_values_same_pieces number_of IsWell low to one (number_of a.hi + 1) (Some a.value) (Some b.value) a_rest b_rest (omega (arith, in_a.0.filled)) in_a.1 (rw end in_b.1) rest_alike in
    ap (λ (piece : Piece P S). piece ∷ a_rest) first ∙ ap (λ (pieces : List (Piece P S)). b ∷ pieces) rest

value_of_spots : {S T : Type 0} (IsWell : S → Type 0) (has : S → T → Bool) → ((a b : S) → IsWell a → IsWell b → ((spot : T) → has a spot ≡ has b spot) → a ≡ b) → (a b : Option S) → IsSome a → IsSome b → ((value : S) → a ≡ Some value → IsWell value) → ((value : S) → b ≡ Some value → IsWell value) → ((spot : T) → value_has has a spot ≡ value_has has b spot) → a ≡ b
value_of_spots IsWell has equal None b some_a some_b well_a well_b alike = cc
value_of_spots IsWell has equal (Some a) None some_a some_b well_a well_b alike = cc
value_of_spots IsWell has equal (Some a) (Some b) some_a some_b well_a well_b alike = ap (λ value. Some value) (equal a b (well_a a refl) (well_b b refl) alike)

-- a number of the space has a value
pub value_at-some : {P S : Type 0} (number_of : P → ℕ) (IsWell : S → Type 0) (from to : ℕ) (before : Option S) (pieces : List (Piece P S)) (n : ℕ) → ArePieces number_of IsWell from to before pieces → from ≤ n → n < to → IsSome (value_at number_of pieces n)
value_at-some number_of IsWell from to before [] n are above below = absurd (omega arith)
value_at-some number_of IsWell from to before (piece ∷ pieces) n are above below =
    elim (cases_lt (number_of piece.hi) n) [
      | inl past ↦ rw (value_at-rest number_of piece pieces n past) (value_at-some number_of IsWell (number_of piece.hi + 1) to (Some piece.value) pieces n are.1 (omega arith) below)
      | inr within ↦ rw (value_at-first number_of piece pieces n (omega (arith, are.0.start)) within) refl
    ]

-- lists of pieces with the same spots are equal
pub same_spots_same_pieces : {P S T : Type 0} (number_of : P → ℕ) (point_of : ℕ → P) (IsWell : S → Type 0) (has : S → T → Bool) (low high : ℕ) → ((n : ℕ) → low ≤ n → n ≤ high → number_of (point_of n) ≡ n) → ((p : P) → low ≤ number_of p → number_of p ≤ high → point_of (number_of p) ≡ p) → ((a b : S) → IsWell a → IsWell b → ((spot : T) → has a spot ≡ has b spot) → a ≡ b) → (a b : List (Piece P S)) → Covers number_of IsWell low high a → Covers number_of IsWell low high b → ((place : At P T) → has_spot number_of has a place ≡ has_spot number_of has b place) → a ≡ b
same_spots_same_pieces {P} {S} {T} number_of point_of IsWell has low high number_of_point point_of_number equal a b in_a in_b alike =
    let one : (p q : P) → low ≤ number_of p → number_of p < high + 1 → number_of p ≡ number_of q → p ≡ q = λ p q above below same. sym (point_of_number p above (omega arith)) ∙ ap point_of same ∙ point_of_number q (omega arith) (omega arith) in
    let spots : (n : ℕ) → low ≤ n → n < high + 1 → (spot : T) → has_at number_of has a n spot ≡ has_at number_of has b n spot = λ n above below spot. rw (number_of_point n above (omega arith)) at (alike (record { point = point_of n; spot = spot })) in
    let values : (n : ℕ) → low ≤ n → n < high + 1 → value_at number_of a n ≡ value_at number_of b n = λ n above below.
    value_of_spots IsWell has equal (value_at number_of a n) (value_at number_of b n)
    (value_at-some number_of IsWell low (high + 1) None a n in_a above below) (value_at-some number_of IsWell low (high + 1) None b n in_b above below)
    (λ value is. IsWell-value_at number_of IsWell low (high + 1) None a n value in_a is) (λ value is. IsWell-value_at number_of IsWell low (high + 1) None b n value in_b is)
    (spots n above below) in
    same_values_same_pieces number_of IsWell low (high + 1) one low None None a b (omega arith) in_a in_b values
