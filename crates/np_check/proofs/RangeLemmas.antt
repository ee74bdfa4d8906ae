-- The first number of some ranges among those from one to another. For BrokenLemmas.
use Rattle.std.proofs.Common.{◌≡◌, ℕ, ◌+◌, ◌<◌, ◌≤◌, List, [], ◌∷◌, Bool, true, false, max, nat_le, ◌||◌, refl, ap, ◌∙◌, inl, inr, arith}
use Rattle.std.specs.List.{find, range_with_len}
use Rattle.std.proofs.lemmas.Bool.{cases_lt, le-leb, lt-leb, or_left}
use Rattle.np_base.proofs.Ranges.{holds-before, is_within-inside, is_within-past}
use Rattle.np_base.specs.Ranges.{IsAscending, holds}
use Rattle.np_check.specs.Prelude.{Range, first_common, first_number}
use Rattle.np_check.proofs.FirstLemmas.{find-at, find-none, find-same}

-- a range that does not end before the first of the numbers
first_there : (range : Range ℕ) (ranges : List (Range ℕ)) (last low high count : ℕ) → low + count ≡ high + 1 → IsAscending (λ a. a) range.lo last (range ∷ ranges) → low ≤ range.hi →
    find (holds (λ a. a) (range ∷ ranges)) (range_with_len low count) ≡ first_common range.lo low high
first_there range ranges last low high count ends ascends reaches =
    let before : (n : ℕ) → low ≤ n → n < max range.lo low → holds (λ a. a) (range ∷ ranges) n ≡ false = λ n from to. holds-before (λ a. a) range.lo last (range ∷ ranges) n ascends (omega arith) in
    elim (cases_lt high (max range.lo low)) [
      | inl past ↦
          let none : nat_le (max range.lo low) high ≡ false = lt-leb (max range.lo low) high past in
          rw none (find-none (holds (λ a. a) (range ∷ ranges)) low count (λ n from to. before n from (omega arith)))
      | inr within ↦
          let some : nat_le (max range.lo low) high ≡ true = le-leb (max range.lo low) high within in
          rw some (find-at (holds (λ a. a) (range ∷ ranges)) low count (max range.lo low) (omega arith) (omega arith)
          (or_left _ _ (is_within-inside (λ a. a) range (max range.lo low) (omega arith) (omega (arith, ascends.1)))) before)
    ]

pub first_number-is : (ranges : List (Range ℕ)) (from last low high count : ℕ) → low + count ≡ high + 1 → IsAscending (λ a. a) from last ranges →
    find (holds (λ a. a) ranges) (range_with_len low count) ≡ first_number (λ a. a) ranges low high
first_number-is [] from last low high count ends ascends = find-none (holds (λ a. a) []) low count (λ n above below. refl)
first_number-is (range ∷ ranges) from last low high count ends ascends =
    elim (cases_lt range.hi low) [
      | inl past ↦
          let skips : nat_le low range.hi ≡ false = lt-leb low range.hi past in
          let same = find-same (holds (λ a. a) (range ∷ ranges)) (holds (λ a. a) ranges) low count
          (λ n above below. ap (λ (first : Bool). first || holds (λ a. a) ranges n) (is_within-past (λ a. a) range n (omega arith))) in
          rw skips (same ∙ first_number-is ranges (range.hi + 2) last low high count ends ascends.3)
      | inr reaches ↦
          let here : nat_le low range.hi ≡ true = le-leb low range.hi reaches in
          rw here (first_there range ranges last low high count ends (omega arith, ascends.1, ascends.2, ascends.3) reaches)
    ]
