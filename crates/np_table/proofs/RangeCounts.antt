-- How many stretches have a number. For `each_number_is_in_one_range`.
use Rattle.std.proofs.Common.{◌≡◌, ℕ, ◌+◌, ◌<◌, ◌≤◌, List, [], ◌∷◌, Bool, true, false, Option, Some, None, cond, count_by, refl, ◌∙◌, ap, zero-add, arith, inl, inr}
use Rattle.std.proofs.lemmas.Bool.{and_from, and_left, and_right, cases_lt, le-leb, lt-leb}
use Rattle.std.proofs.lemmas.List.Sums.{sum_by-cons}
use Rattle.np_conns.specs.Prelude.{Conns}
use Rattle.np_table.specs.Prelude.{AreRight, IsRight, PortSpot, Stretch, is_within}

-- a stretch counts once where it has the number, and else not
count_by-first : (n : ℕ) (stretch : Stretch) (stretches : List Stretch) → count_by (is_within n) (stretch ∷ stretches) ≡ cond (is_within n stretch) 1 0 + count_by (is_within n) stretches
count_by-first n stretch stretches = sum_by-cons (λ (other : Stretch). cond (is_within n other) 1 0) stretch stretches

count_by-outside : (n : ℕ) (stretch : Stretch) (stretches : List Stretch) → is_within n stretch ≡ false → count_by (is_within n) (stretch ∷ stretches) ≡ count_by (is_within n) stretches
count_by-outside n stretch stretches outside =
    count_by-first n stretch stretches ∙ ap (λ (within : Bool). cond within 1 0 + count_by (is_within n) stretches) outside ∙ zero-add (count_by (is_within n) stretches)

count_by-inside : (n : ℕ) (stretch : Stretch) (stretches : List Stretch) → is_within n stretch ≡ true → count_by (is_within n) (stretch ∷ stretches) ≡ 1 + count_by (is_within n) stretches
count_by-inside n stretch stretches inside =
    count_by-first n stretch stretches ∙ ap (λ (within : Bool). cond within 1 0 + count_by (is_within n) stretches) inside

-- none has a number before them
none_before : (passes : ℕ → PortSpot → Bool) (from to n : ℕ) (before : Option Conns) (stretches : List Stretch) → AreRight passes from to before stretches → n < from →
    count_by (is_within n) stretches ≡ 0
none_before passes from to n before [] are below = refl
none_before passes from to n before (stretch ∷ stretches) are below =
    count_by-outside n stretch stretches (and_left _ _ (lt-leb stretch.lo n (omega (arith, are.0.start))))
    ∙ none_before passes (stretch.hi + 1) to n (Some stretch.conns) stretches are.1 (omega (arith, are.0.start, are.0.filled))

-- one has a number of the space
one_within : (passes : ℕ → PortSpot → Bool) (from to n : ℕ) (before : Option Conns) (stretches : List Stretch) → AreRight passes from to before stretches → from ≤ n → n < to →
    count_by (is_within n) stretches ≡ 1
one_within passes from to n before [] are above below = absurd (omega arith)
one_within passes from to n before (stretch ∷ stretches) are above below =
    elim (cases_lt stretch.hi n) [
      | inl past ↦
          count_by-outside n stretch stretches (and_right _ _ (lt-leb n stretch.hi past))
          ∙ one_within passes (stretch.hi + 1) to n (Some stretch.conns) stretches are.1 (omega arith) below
      | inr within ↦
          count_by-inside n stretch stretches (and_from _ _ (le-leb stretch.lo n (omega (arith, are.0.start))) (le-leb n stretch.hi within))
          ∙ ap (λ (count : ℕ). 1 + count) (none_before passes (stretch.hi + 1) to n (Some stretch.conns) stretches are.1 (omega arith))
    ]

-- each number of the space is in one stretch of a right list
pub one_range : (passes : ℕ → PortSpot → Bool) (low high n : ℕ) (stretches : List Stretch) → IsRight passes low high stretches → low ≤ n → n ≤ high → count_by (is_within n) stretches ≡ 1
one_range passes low high n stretches right above below = one_within passes low (high + 1) n None stretches right above (omega arith)
