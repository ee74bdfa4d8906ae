-- The numbers that a list of ranges misses. For `complement_ranges` and `push_gap`.
use Rattle.std.proofs.Common.{◌≡◌, ℕ, ◌+◌, ◌-◌, ◌<◌, List, [], ◌∷◌, ◌++◌, Bool, false, not, ◌||◌, ◌&&◌, nat_le, nat_lt, arith}
use Rattle.std.proofs.lemmas.Bool.Decides.{nat_tests}
use Rattle.np_base.specs.Ranges.{is_within, holds, IsAscending}
use Rattle.np_base.specs.declared.range.Range.{Range}
use Rattle.np_base.proofs.Ranges.{holds-before}
use Rattle.np_sets.specs.Space.{is_between}
use Rattle.np_sets.proofs.Members.{holds-push}

-- the range from a number to the one before another has the numbers between
is_within-gap : {P : Type 0} (number_of : P → ℕ) (range : Range P) (from to n : ℕ) → from < to → number_of range.lo ≡ from → number_of range.hi ≡ to - 1 →
    is_within number_of range n ≡ (nat_le from n && nat_lt n to)
is_within-gap number_of range from to n ordered first last = grind (arith, nat_tests)

-- a gap put last adds its numbers
pub holds-push_gap : {P : Type 0} (number_of : P → ℕ) (ranges : List (Range P)) (range : Range P) (from to n : ℕ) → from < to → number_of range.lo ≡ from → number_of range.hi ≡ to - 1 →
    holds number_of (ranges ++ range ∷ []) n ≡ (holds number_of ranges n || (nat_le from n && nat_lt n to))
holds-push_gap number_of ranges range from to n ordered first last =
    rw (holds-push number_of ranges range n, is_within-gap number_of range from to n ordered first last)

-- whether the number is one from `from` to `last` that no range has
abbrev pub misses : {P : Type 0} → (P → ℕ) → ℕ → ℕ → List (Range P) → ℕ → Bool
misses number_of from last ranges n = is_between from last n && not (holds number_of ranges n)

-- what a list misses is the gap before its first range, and what the rest misses
pub misses-rest : {P : Type 0} (number_of : P → ℕ) (from last lo hi : ℕ) (ranges : List (Range P)) (range : Range P) (rest : List (Range P)) (n : ℕ) → ranges ≡ range ∷ rest → lo ≡ number_of range.lo →
    hi ≡ number_of range.hi → IsAscending number_of from last ranges → hi < last → misses number_of from last ranges n ≡ ((nat_le from n && nat_lt n lo) || misses number_of (hi + 1) last rest n)
misses-rest number_of from last lo hi ranges range rest n taken is_lo is_hi ascends more =
    let parts = rw taken at ascends in
    let before : n < number_of range.hi + 2 → holds number_of rest n ≡ false = holds-before number_of (number_of range.hi + 2) last rest n parts.3 in
    rw (taken, is_lo, is_hi) grind (arith, nat_tests, before, parts.0, parts.1)

-- where the first range ends the space, the gap before it is all that is missed
pub misses-end : {P : Type 0} (number_of : P → ℕ) (from last lo hi : ℕ) (ranges : List (Range P)) (range : Range P) (rest : List (Range P)) (n : ℕ) → ranges ≡ range ∷ rest → lo ≡ number_of range.lo →
    hi ≡ number_of range.hi → IsAscending number_of from last ranges → hi ≡ last → misses number_of from last ranges n ≡ (nat_le from n && nat_lt n lo)
misses-end number_of from last lo hi ranges range rest n taken is_lo is_hi ascends ends =
    let parts = rw taken at ascends in
    let before : n < number_of range.hi + 2 → holds number_of rest n ≡ false = holds-before number_of (number_of range.hi + 2) last rest n parts.3 in
    rw (taken, is_lo) grind (arith, nat_tests, before, parts.0, parts.1)

-- past the last range, all up to the last number are missed
pub holds-last_gap : {P : Type 0} (number_of : P → ℕ) (ranges : List (Range P)) (range : Range P) (from last n : ℕ) → number_of range.lo ≡ from → number_of range.hi ≡ last →
    holds number_of (ranges ++ range ∷ []) n ≡ (holds number_of ranges n || misses number_of from last [] n)
holds-last_gap number_of ranges range from last n first ends = rw (holds-push number_of ranges range n, first, ends) grind (arith, nat_tests)
