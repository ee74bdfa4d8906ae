-- Ascending lists of ranges: one list for each set of numbers. For crates above.
use Rattle.std.proofs.Common.{◌≡◌, ℕ, ◌+◌, ◌<◌, ◌≤◌, List, [], ◌∷◌, Bool, true, false, ◌||◌, refl, sym, ◌∙◌, ap, arith, inl, inr}
use Rattle.std.proofs.lemmas.Bool.{and_from, and_left, and_right, or_from, or_left, lt-leb, le-leb, cases_order, cases_lt}
use Rattle.np_base.specs.Ranges.{is_within, holds, IsAscending}
use Rattle.np_base.specs.declared.range.Range.{Range}

-- a number from the range's first to its last is within
pub is_within-inside : {P : Type 0} (number_of : P → ℕ) (range : Range P) (n : ℕ) → number_of range.lo ≤ n → n ≤ number_of range.hi → is_within number_of range n ≡ true
is_within-inside number_of range n above below = and_from _ _ (le-leb (number_of range.lo) n above) (le-leb n (number_of range.hi) below)

-- a number before the range's first is not
pub is_within-before : {P : Type 0} (number_of : P → ℕ) (range : Range P) (n : ℕ) → n < number_of range.lo → is_within number_of range n ≡ false
is_within-before number_of range n below = and_left _ _ (lt-leb (number_of range.lo) n below)

-- a number past the range's last is not
pub is_within-past : {P : Type 0} (number_of : P → ℕ) (range : Range P) (n : ℕ) → number_of range.hi < n → is_within number_of range n ≡ false
is_within-past number_of range n above = and_right _ _ (lt-leb n (number_of range.hi) above)

-- a number before the list begins is in none of its ranges
pub holds-before : {P : Type 0} (number_of : P → ℕ) (from last : ℕ) (ranges : List (Range P)) (n : ℕ) → IsAscending number_of from last ranges → n < from → holds number_of ranges n ≡ false
holds-before number_of from last [] n ascends below = refl
holds-before number_of from last (range ∷ ranges) n ascends below =
    or_from _ _ (is_within-before number_of range n (omega arith)) (holds-before number_of (number_of range.hi + 2) last ranges n ascends.3 (omega arith))

-- a list that begins later ascends from any earlier number too
pub IsAscending-earlier : {P : Type 0} (number_of : P → ℕ) (from earlier last : ℕ) (ranges : List (Range P)) → earlier ≤ from → IsAscending number_of from last ranges →
    IsAscending number_of earlier last ranges
IsAscending-earlier number_of from earlier last [] before ascends = tt
IsAscending-earlier number_of from earlier last (range ∷ ranges) before ascends = (omega arith, ascends.1, ascends.2, ascends.3)

or_skip : (x y z w : Bool) → x ≡ false → y ≡ false → (x || z) ≡ (y || w) → z ≡ w
or_skip false false z w _ _ alike = alike
or_skip true y z w left right alike = cc
or_skip false true z w left right alike = cc

-- a number that the first list has and the second list has not
at_odds : (x y : Bool) → x ≡ true → y ≡ false → x ≡ y → ⊥
at_odds x y has lacks alike = cc

-- two lists with the same numbers do not begin one before the other
no_earlier_start : {P : Type 0} (number_of : P → ℕ) (low last from : ℕ) (a : Range P) (a_rest : List (Range P)) (b : Range P) (b_rest : List (Range P)) → low ≤ from →
    IsAscending number_of from last (a ∷ a_rest) → IsAscending number_of from last (b ∷ b_rest) → ((n : ℕ) → low ≤ n → n ≤ last → holds number_of (a ∷ a_rest) n ≡ holds number_of (b ∷ b_rest) n) →
    number_of a.lo < number_of b.lo → ⊥
no_earlier_start number_of low last from a a_rest b b_rest above in_a in_b alike earlier =
    let n = number_of a.lo in
    let later : IsAscending number_of (number_of b.lo) last (b ∷ b_rest) = (omega arith, in_b.1, in_b.2, in_b.3) in
    at_odds _ _ (or_left _ _ (is_within-inside number_of a n (omega arith) in_a.1)) (holds-before number_of (number_of b.lo) last (b ∷ b_rest) n later earlier) (alike n (omega arith) (omega arith))

-- nor does the first range of one end before that of the other
no_earlier_end : {P : Type 0} (number_of : P → ℕ) (low last from : ℕ) (a : Range P) (a_rest : List (Range P)) (b : Range P) (b_rest : List (Range P)) → low ≤ from →
    IsAscending number_of from last (a ∷ a_rest) → IsAscending number_of from last (b ∷ b_rest) → ((n : ℕ) → low ≤ n → n ≤ last → holds number_of (a ∷ a_rest) n ≡ holds number_of (b ∷ b_rest) n) →
    number_of a.lo ≡ number_of b.lo → number_of a.hi < number_of b.hi → ⊥
no_earlier_end number_of low last from a a_rest b b_rest above in_a in_b alike start earlier =
    let n = number_of a.hi + 1 in
    at_odds _ _ (or_left _ _ (is_within-inside number_of b n (omega arith) (omega arith)))
    (or_from _ _ (is_within-past number_of a n (omega arith)) (holds-before number_of (number_of a.hi + 2) last a_rest n in_a.3 (omega arith)))
    (sym (alike n (omega arith) (omega arith)))

-- after equal first ranges, the rests have the same numbers
rest_alike : {P : Type 0} (number_of : P → ℕ) (low last : ℕ) (a : Range P) (a_rest : List (Range P)) (b : Range P) (b_rest : List (Range P)) → IsAscending number_of (number_of a.hi + 2) last a_rest →
    IsAscending number_of (number_of b.hi + 2) last b_rest → number_of a.hi ≡ number_of b.hi → ((n : ℕ) → low ≤ n → n ≤ last → holds number_of (a ∷ a_rest) n ≡ holds number_of (b ∷ b_rest) n) →
    (n : ℕ) → low ≤ n → n ≤ last → holds number_of a_rest n ≡ holds number_of b_rest n
rest_alike number_of low last a a_rest b b_rest in_a_rest in_b_rest end alike n above below =
    elim (cases_lt n (number_of a.hi + 2)) [
      | inl before ↦ holds-before number_of (number_of a.hi + 2) last a_rest n in_a_rest before ∙ sym (holds-before number_of (number_of b.hi + 2) last b_rest n in_b_rest (omega arith))
      | inr past ↦ or_skip _ _ _ _ (is_within-past number_of a n (omega arith)) (is_within-past number_of b n (omega arith)) (alike n above below)
    ]

equal_ranges : {P : Type 0} (a b : Range P) → a.lo ≡ b.lo → a.hi ≡ b.hi → a ≡ b
equal_ranges {P} a b lo hi =
    let with_lo : P → Range P = λ p. record { lo = p; hi = a.hi } in
    let with_hi : P → Range P = λ p. record { lo = b.lo; hi = p } in
    ap with_lo lo ∙ ap with_hi hi

-- Two ascending lists that hold the same numbers are equal, where points of one number are.
pub same_members_same_ranges : {P : Type 0} (number_of : P → ℕ) (low last : ℕ) → ((p q : P) → low ≤ number_of p → number_of p ≤ last → number_of p ≡ number_of q → p ≡ q) →
    (from : ℕ) (a_rest b_rest : List (Range P)) → low ≤ from → IsAscending number_of from last a_rest → IsAscending number_of from last b_rest →
    ((n : ℕ) → low ≤ n → n ≤ last → holds number_of a_rest n ≡ holds number_of b_rest n) → a_rest ≡ b_rest
same_members_same_ranges number_of low last one from [] [] above in_a_rest in_b_rest alike = refl
same_members_same_ranges number_of low last one from [] (b ∷ b_rest) above in_a_rest in_b_rest alike =
    absurd (at_odds _ _ (or_left _ _ (is_within-inside number_of b (number_of b.lo) (omega arith) in_b_rest.1)) refl (sym (alike (number_of b.lo) (omega arith) (omega arith))))
same_members_same_ranges number_of low last one from (a ∷ a_rest) [] above in_a_rest in_b_rest alike =
    absurd (at_odds _ _ (or_left _ _ (is_within-inside number_of a (number_of a.lo) (omega arith) in_a_rest.1)) refl (alike (number_of a.lo) (omega arith) (omega arith)))
same_members_same_ranges {P} number_of low last one from (a ∷ a_rest) (b ∷ b_rest) above in_a_rest in_b_rest alike =
    let flipped : (n : ℕ) → low ≤ n → n ≤ last → holds number_of (b ∷ b_rest) n ≡ holds number_of (a ∷ a_rest) n = λ n up down. sym (alike n up down) in
    let start : number_of a.lo ≡ number_of b.lo = elim (cases_order (number_of a.lo) (number_of b.lo)) [
      | inl equal ↦ equal
      | inr apart ↦ elim apart [
        | inl before ↦ absurd (no_earlier_start number_of low last from a a_rest b b_rest above in_a_rest in_b_rest alike before)
        | inr after ↦ absurd (no_earlier_start number_of low last from b b_rest a a_rest above in_b_rest in_a_rest flipped after)
      ]
    ] in
    let end : number_of a.hi ≡ number_of b.hi = elim (cases_order (number_of a.hi) (number_of b.hi)) [
      | inl equal ↦ equal
      | inr apart ↦ elim apart [
        | inl before ↦ absurd (no_earlier_end number_of low last from a a_rest b b_rest above in_a_rest in_b_rest alike start before)
        | inr after ↦ absurd (no_earlier_end number_of low last from b b_rest a a_rest above in_b_rest in_a_rest flipped (sym start) after)
      ]
    ] in
    let rest : a_rest ≡ b_rest = same_members_same_ranges number_of low last one (number_of a.hi + 2) a_rest b_rest (omega arith) in_a_rest.3
    (IsAscending-earlier number_of (number_of b.hi + 2) (number_of a.hi + 2) last b_rest (omega arith) in_b_rest.3)
    (rest_alike number_of low last a a_rest b b_rest in_a_rest.3 in_b_rest.3 end alike) in
    let first : a ≡ b = equal_ranges a b (one a.lo b.lo (omega arith) (omega arith) start) (one a.hi b.hi (omega arith) (omega arith) end) in
    ap (λ (r : Range P). r ∷ a_rest) first ∙ ap (λ (rs : List (Range P)). b ∷ rs) rest
