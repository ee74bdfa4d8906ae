-- Lists of ranges that grow at the end.
use Rattle.std.specs.Prelude.{ℕ, ◌≡◌, ◌+◌, ◌≤◌, ◌||◌, List, [], ◌∷◌}
use Rattle.np_base.specs.declared.range.Range.{Range}
use Rattle.np_base.specs.Ranges.{is_within, holds}

-- The ranges ascend from `from` to `last`, and one that begins at `next` or later may follow them: it is past `from`,
-- and at least one number is missing between it and the last of them.
abbrev pub IsAscendingUpTo : {P : Type 0} → (P → ℕ) → ℕ → ℕ → List (Range P) → ℕ → Type 0
IsAscendingUpTo number_of from last [] next = from ≤ next
IsAscendingUpTo number_of from last (range ∷ ranges) next = (from ≤ number_of range.lo) × (number_of range.lo ≤ number_of range.hi) × (number_of range.hi ≤ last) × IsAscendingUpTo number_of (number_of range.hi + 2) last ranges next

-- A range that still grows follows the ranges that are made.
pub record IsGrowing {P : Type 0} (number_of : P → ℕ) (low high : ℕ) (made : List (Range P)) (growing : Range P) : Type 0 where
  pub follows : IsAscendingUpTo number_of low high made (number_of growing.lo)
  pub filled : number_of growing.lo ≤ number_of growing.hi
  pub end : number_of growing.hi ≤ high

-- What is made and the growing range take the next range in: they have its numbers more, and stay in order.
pub record GrowsTo {P : Type 0} (number_of : P → ℕ) (low high : ℕ) (made : List (Range P)) (growing next : Range P) (made_after : List (Range P)) (grown : Range P) : Type 0 where
  pub members : (n : ℕ) → (holds number_of made_after n || is_within number_of grown n) ≡ ((holds number_of made n || is_within number_of growing n) || is_within number_of next n)
  pub order : IsGrowing number_of low high made growing → number_of next.lo ≤ number_of next.hi → number_of next.hi ≤ high → IsGrowing number_of low high made_after grown × (number_of grown.lo ≤ number_of next.lo)
