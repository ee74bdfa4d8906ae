-- Lists of ranges of points, by a function from points to numbers.
use Rattle.std.specs.Prelude.{ℕ, ◌+◌, ◌≤◌, List, [], ◌∷◌, Bool, false, ◌&&◌, ◌||◌, nat_le, ◌==◌}
use Rattle.np_base.specs.declared.range.Range.{Range}

-- whether a number is in the range, ends included
abbrev pub is_within : {P : Type 0} → (P → ℕ) → Range P → ℕ → Bool
is_within number_of range n = nat_le (number_of range.lo) n && nat_le n (number_of range.hi)

-- whether a number is in one of the ranges
abbrev pub holds : {P : Type 0} → (P → ℕ) → List (Range P) → ℕ → Bool
holds number_of [] n = false
holds number_of (range ∷ ranges) n = is_within number_of range n || holds number_of ranges n

-- No range begins before `from` or ends after `last`, none is empty, they ascend, and between two neighbours at
-- least one number is missing.
abbrev pub IsAscending : {P : Type 0} → (P → ℕ) → ℕ → ℕ → List (Range P) → Type 0
IsAscending number_of from last [] = Unit {0}
IsAscending number_of from last (range ∷ ranges) = (from ≤ number_of range.lo) × (number_of range.lo ≤ number_of range.hi) × (number_of range.hi ≤ last) × IsAscending number_of (number_of range.hi + 2) last ranges

-- whether two ranges have the same ends
abbrev pub are_same_range : Range ℕ → Range ℕ → Bool
are_same_range a b = a.lo == b.lo && a.hi == b.hi
