-- Steps of one pass over two lists of ranges.
use Rattle.std.specs.Prelude.{ℕ, ◌≡◌, ◌+◌, ◌<◌, ◌≤◌, min, max, ◌&&◌, ◌||◌, true, List, length, Option, Some, None, option_to_list, IfSome}
use Rattle.np_base.specs.declared.range.Range.{Range}
use Rattle.np_base.specs.Ranges.{is_within, holds, IsAscending}

-- the range does not end before it begins, none of the lists' ranges begins before it, and they ascend
pub record LeadsBoth {P : Type 0} (number_of : P → ℕ) (from last : ℕ) (range : Range P) (left right : List (Range P)) : Type 0 where
  pub start : from ≤ number_of range.lo
  pub filled : number_of range.lo ≤ number_of range.hi
  pub end : number_of range.hi ≤ last
  pub left_after : IsAscending number_of (number_of range.lo) last left
  pub right_after : IsAscending number_of (number_of range.lo) last right

-- the range is the one that begins first in two lists, and the other lists are those without it
pub record IsEarlier {P : Type 0} (number_of : P → ℕ) (left right : List (Range P)) (range : Range P) (left_rest right_rest : List (Range P)) : Type 0 where
  pub shorter : length left_rest + length right_rest + 1 ≡ length left + length right
  pub members : (n : ℕ) → (holds number_of left n || holds number_of right n) ≡ (is_within number_of range n || (holds number_of left_rest n || holds number_of right_rest n))
  pub first : (from last : ℕ) → IsAscending number_of from last left → IsAscending number_of from last right → LeadsBoth number_of from last range left_rest right_rest

-- the range has the numbers that two ranges share, and is there where they share any
abbrev pub IsShared : {P : Type 0} → (P → ℕ) → Range P → Range P → Option (Range P) → Type 0
IsShared number_of left right None = min (number_of left.hi) (number_of right.hi) < max (number_of left.lo) (number_of right.lo)
IsShared number_of left right (Some range) = (number_of range.lo ≡ max (number_of left.lo) (number_of right.lo)) × (number_of range.hi ≡ min (number_of left.hi) (number_of right.hi)) × (number_of range.lo ≤ number_of range.hi)

-- The range is what the first ranges of two lists share, and the other lists are those without the one of them that ends
-- first: what both lists share is in the range or shared by the other lists, past the range.
pub record IsOverlap {P : Type 0} (number_of : P → ℕ) (low high : ℕ) (left right : List (Range P)) (range : Option (Range P)) (left_rest right_rest : List (Range P)) : Type 0 where
  pub shorter : length left_rest + length right_rest + 1 ≡ length left + length right
  pub members : (n : ℕ) → (holds number_of left n && holds number_of right n) ≡ (holds number_of (option_to_list range) n || (holds number_of left_rest n && holds number_of right_rest n))
  pub left_ascends : IsAscending number_of low high left_rest
  pub right_ascends : IsAscending number_of low high right_rest
  pub filled : IfSome range (λ shared. (number_of shared.lo ≤ number_of shared.hi) × (number_of shared.hi ≤ high))
  pub past : IfSome range (λ shared. (n : ℕ) → (holds number_of left_rest n && holds number_of right_rest n) ≡ true → number_of shared.hi + 2 ≤ n)
