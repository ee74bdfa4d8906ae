-- The first number of a range that passes a test. For `Flat::next_like`.
use Rattle.std.proofs.Common.{◌≡◌, ℕ, zero, suc, ◌+◌, ◌<◌, ◌≤◌, Bool, true, false, Some, None, refl, sym, ap, ◌∙◌, inl, inr, arith}
use Rattle.std.specs.List.{find, range_with_len}
use Rattle.std.proofs.lemmas.Bool.{cases_eq}

module _ (p : ℕ → Bool) where
  pub range-none : (from len : ℕ) → ((k : ℕ) → from ≤ k → k < from + len → p k ≡ false) → find p (range_with_len from len) ≡ None
  range-none from zero none = refl
  range-none from (suc len) none = rw (none from (omega arith) (omega arith)) (range-none (from + 1) len (λ k low high. none k (omega arith) (omega arith)))

  pub range-some : (from len at : ℕ) → from ≤ at → at < from + len → p at ≡ true → ((k : ℕ) → from ≤ k → k < at → p k ≡ false) → find p (range_with_len from len) ≡ Some at
  range-some from zero at low high is before = absurd (omega arith)
  range-some from (suc len) at low high is before =
      elim (cases_eq from at) [
        | inl here ↦ let first : p from ≡ true = ap p here ∙ is in rw first (ap (λ (k : ℕ). Some k) here)
        | inr apart ↦ rw (before from (omega arith) (omega arith)) (range-some (from + 1) len at (omega arith) (omega arith) is (λ k above below. before k (omega arith) below))
      ]

  -- what is found is the first that passes
  pub found-is : (from len at : ℕ) → find p (range_with_len from len) ≡ Some at → (from ≤ at) × (at < from + len) × (p at ≡ true) × ((k : ℕ) → from ≤ k → k < at → p k ≡ false)
  found-is from zero at is = absurd (cc)
  found-is from (suc len) at is = by (p from) refl is (found-is (from + 1) len at)
    where
      by : (b : Bool) → p from ≡ b → find p (range_with_len from (suc len)) ≡ Some at →
          (find p (range_with_len (from + 1) len) ≡ Some at → (from + 1 ≤ at) × (at < from + 1 + len) × (p at ≡ true) × ((k : ℕ) → from + 1 ≤ k → k < at → p k ≡ false)) →
          (from ≤ at) × (at < from + suc len) × (p at ≡ true) × ((k : ℕ) → from ≤ k → k < at → p k ≡ false)
      by true passes found rest =
          let one : Some from ≡ Some at = rw passes at found in
          let here : from ≡ at = cc in
          (omega arith, omega arith, ap p (sym here) ∙ passes, λ k low below. absurd (omega (arith, low, below, here)))
      by false fails found rest =
          let there = rest (rw fails at found) in (
            omega (arith, there.0),
            omega (arith, there.1),
            there.2,
            λ k low below. elim (cases_eq k from) [
              | inl here ↦ ap p here ∙ fails
              | inr apart ↦ there.3 k (omega arith) below
            ],
          )

  pub found-none : (from len : ℕ) → find p (range_with_len from len) ≡ None → (k : ℕ) → from ≤ k → k < from + len → p k ≡ false
  found-none from zero is k low high = absurd (omega arith)
  found-none from (suc len) is k low high = by (p from) refl is (found-none (from + 1) len)
    where
      by : (b : Bool) → p from ≡ b → find p (range_with_len from (suc len)) ≡ None → (find p (range_with_len (from + 1) len) ≡ None → (j : ℕ) → from + 1 ≤ j → j < from + 1 + len → p j ≡ false) →
          p k ≡ false
      by true passes found rest = let never : Some from ≡ None = rw passes at found in absurd (cc)
      by false fails found rest =
          elim (cases_eq k from) [
            | inl here ↦ ap p here ∙ fails
            | inr apart ↦ rest (rw fails at found) k (omega arith) (omega arith)
          ]
