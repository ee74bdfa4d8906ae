-- Lists of ranges that grow at the end. For `complement_ranges`, `grow` and 3 more.
use Rattle.std.proofs.Common.{◌≡◌, ℕ, ◌+◌, ◌≤◌, List, [], ◌∷◌, ◌++◌, arith}
use Rattle.np_base.specs.Ranges.{IsAscending}
use Rattle.np_base.specs.declared.range.Range.{Range}
use Rattle.np_sets.specs.Growing.{IsAscendingUpTo, IsGrowing, GrowsTo}
use Rattle.np_sets.proofs.Members.{holds-push}

-- a range that follows the others, put at the end
pub IsAscendingUpTo-push : {P : Type 0} (number_of : P → ℕ) (from last next : ℕ) (ranges : List (Range P)) (range : Range P) → IsAscendingUpTo number_of from last ranges (number_of range.lo) →
    number_of range.lo ≤ number_of range.hi → number_of range.hi ≤ last → number_of range.hi + 2 ≤ next → IsAscendingUpTo number_of from last (ranges ++ range ∷ []) next
IsAscendingUpTo-push number_of from last next [] range before filled within after = (before, filled, within, after)
IsAscendingUpTo-push number_of from last next (first ∷ ranges) range before filled within after =
    (before.0, before.1, before.2, IsAscendingUpTo-push number_of (number_of first.hi + 2) last next ranges range before.3 filled within after)

-- what may follow at a number may follow later
pub IsAscendingUpTo-later : {P : Type 0} (number_of : P → ℕ) (from last next later : ℕ) (ranges : List (Range P)) → next ≤ later → IsAscendingUpTo number_of from last ranges next →
    IsAscendingUpTo number_of from last ranges later
IsAscendingUpTo-later number_of from last next later [] after ascends = omega arith
IsAscendingUpTo-later number_of from last next later (range ∷ ranges) after ascends =
    (ascends.0, ascends.1, ascends.2, IsAscendingUpTo-later number_of (number_of range.hi + 2) last next later ranges after ascends.3)

-- such ranges ascend
pub IsAscending-from_up_to : {P : Type 0} (number_of : P → ℕ) (from last next : ℕ) (ranges : List (Range P)) → IsAscendingUpTo number_of from last ranges next → IsAscending number_of from last ranges
IsAscending-from_up_to number_of from last next [] ascends = tt
IsAscending-from_up_to number_of from last next (range ∷ ranges) ascends =
    (ascends.0, ascends.1, ascends.2, IsAscending-from_up_to number_of (number_of range.hi + 2) last next ranges ascends.3)

-- where the next range does not touch, the growing one is made
pub GrowsTo-push : {P : Type 0} (number_of : P → ℕ) (low high : ℕ) (made : List (Range P)) (growing next : Range P) (made_after : List (Range P)) → made_after ≡ made ++ growing ∷ [] →
    number_of growing.hi + 2 ≤ number_of next.lo → GrowsTo number_of low high made growing next made_after next
GrowsTo-push number_of low high made growing next made_after adds apart = record {
  members = λ n. rw (adds, holds-push number_of made growing n);
  order = λ grows filled end. (
    record {
      follows = rw adds (IsAscendingUpTo-push number_of low high (number_of next.lo) made growing grows.follows grows.filled grows.end apart);
      filled = filled;
      end = end;
    },
    omega arith,
  );
}

-- the growing range, put at the end, keeps the order
pub IsAscending-from_growing : {P : Type 0} (number_of : P → ℕ) (low high : ℕ) (made : List (Range P)) (growing : Range P) → IsGrowing number_of low high made growing →
    IsAscending number_of low high (made ++ growing ∷ [])
IsAscending-from_growing number_of low high made growing grows =
    IsAscending-from_up_to number_of low high (number_of growing.hi + 2) (made ++ growing ∷ [])
    (IsAscendingUpTo-push number_of low high (number_of growing.hi + 2) made growing grows.follows grows.filled grows.end (omega arith))
