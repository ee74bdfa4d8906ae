-- Laws of ascending lists of ranges.
use Rattle.std.proofs.Common.{◌≡◌, ℕ, ◌+◌, ◌≤◌, List, [], ◌∷◌, true, sym, ◌∙◌, ap, arith, inl, inr}
use Rattle.std.proofs.lemmas.Bool.{and_from, or_cases, both_ways, cases_lt, le-leb, false≢true}
use Rattle.np_base.specs.Ranges.{is_within, holds, IsAscending}
use Rattle.np_base.specs.declared.range.Range.{Range}
use Rattle.np_base.proofs.Ranges.{holds-before, is_within-past, same_members_same_ranges}
use Rattle.np_sets.specs.Space.{is_between}

-- a number that a range has is not past its end
pub within-end : {P : Type 0} (number_of : P → ℕ) (range : Range P) (n : ℕ) → is_within number_of range n ≡ true → n ≤ number_of range.hi
within-end number_of range n within =
    elim (cases_lt (number_of range.hi) n) [ inl past ↦ absurd (both_ways _ (is_within-past number_of range n past) within) | inr inside ↦ inside ]

within_last : {P : Type 0} (number_of : P → ℕ) (range : Range P) (n last : ℕ) → is_within number_of range n ≡ true → number_of range.hi ≤ last → n ≤ last
within_last number_of range n last within ends = omega (arith, within-end number_of range n within)

-- a number that the list holds is not before the list begins
pub holds-from : {P : Type 0} (number_of : P → ℕ) (from last : ℕ) (ranges : List (Range P)) (n : ℕ) → IsAscending number_of from last ranges → holds number_of ranges n ≡ true → from ≤ n
holds-from number_of from last ranges n ascends held =
    elim (cases_lt n from) [ inl before ↦ absurd (both_ways _ (holds-before number_of from last ranges n ascends before) held) | inr past ↦ past ]

-- nor past the last number
pub holds-last : {P : Type 0} (number_of : P → ℕ) (from last : ℕ) (ranges : List (Range P)) (n : ℕ) → IsAscending number_of from last ranges → holds number_of ranges n ≡ true → n ≤ last
holds-last number_of from last [] n ascends held = absurd (false≢true held)
holds-last number_of from last (range ∷ ranges) n ascends held =
    elim (or_cases _ _ held) [ inl within ↦ within_last number_of range n last within ascends.2 | inr later ↦ holds-last number_of (number_of range.hi + 2) last ranges n ascends.3 later ]

-- so it is of the space
pub holds-between : {P : Type 0} (number_of : P → ℕ) (low high : ℕ) (ranges : List (Range P)) (n : ℕ) → IsAscending number_of low high ranges → holds number_of ranges n ≡ true → is_between low high n ≡ true
holds-between number_of low high ranges n ascends held =
    and_from _ _ (le-leb low n (holds-from number_of low high ranges n ascends held)) (le-leb n high (holds-last number_of low high ranges n ascends held))

-- lists of the same points are equal
pub same_points_same_ranges : {P : Type 0} (number_of : P → ℕ) (point_of : ℕ → P) (low high : ℕ) → ((n : ℕ) → low ≤ n → n ≤ high → number_of (point_of n) ≡ n) → ((p : P) → low ≤ number_of p → number_of p ≤ high → point_of (number_of p) ≡ p) → (a b : List (Range P)) → IsAscending number_of low high a → IsAscending number_of low high b → ((p : P) → holds number_of a (number_of p) ≡ holds number_of b (number_of p)) → a ≡ b
same_points_same_ranges {P} number_of point_of low high number_of_point point_of_number a b in_a in_b alike =
    let one : (p q : P) → low ≤ number_of p → number_of p ≤ high → number_of p ≡ number_of q → p ≡ q = λ p q above below same. sym (point_of_number p above below) ∙ ap point_of same ∙ point_of_number q (omega arith) (omega arith) in
    let everywhere : (n : ℕ) → low ≤ n → n ≤ high → holds number_of a n ≡ holds number_of b n = λ n above below. rw (number_of_point n above below) at (alike (point_of n)) in
    same_members_same_ranges number_of low high one low a b (omega arith) in_a in_b everywhere
