-- Steps of one pass over two lists of ranges. For `take_earlier`.
use Rattle.std.proofs.Common.{◌≡◌, ℕ, ◌+◌, ◌≤◌, List, [], ◌∷◌, Bool, true, false, ◌||◌, length, refl, sym, arith}
use Rattle.np_base.specs.Ranges.{is_within, holds, IsAscending}
use Rattle.np_base.specs.declared.range.Range.{Range}
use Rattle.np_base.proofs.Ranges.{IsAscending-earlier}
use Rattle.np_base.proofs.Bools.{or-leftwards}
use Rattle.np_sets.specs.Steps.{IsEarlier}

-- the first of the ranges, if there is one, does not begin before the number
abbrev pub BeginsFrom : {P : Type 0} → (P → ℕ) → ℕ → List (Range P) → Type 0
BeginsFrom number_of from [] = Unit {0}
BeginsFrom number_of from (range ∷ ranges) = from ≤ number_of range.lo

pub BeginsFrom-none : {P : Type 0} (number_of : P → ℕ) (from : ℕ) (ranges : List (Range P)) → length ranges ≡ 0 → BeginsFrom number_of from ranges
BeginsFrom-none number_of from [] none = tt
BeginsFrom-none number_of from (range ∷ ranges) none = absurd (omega arith)

pub BeginsFrom-first : {P : Type 0} (number_of : P → ℕ) (from : ℕ) (ranges : List (Range P)) (range : Range P) (rest : List (Range P)) → ranges ≡ range ∷ rest → from ≤ number_of range.lo →
    BeginsFrom number_of from ranges
BeginsFrom-first number_of from ranges range rest is before = rw is before

IsAscending-begins : {P : Type 0} (number_of : P → ℕ) (from start last : ℕ) (ranges : List (Range P)) → BeginsFrom number_of start ranges → IsAscending number_of from last ranges →
    IsAscending number_of start last ranges
IsAscending-begins number_of from start last [] begins ascends = tt
IsAscending-begins number_of from start last (range ∷ ranges) begins ascends = (begins, ascends.1, ascends.2, ascends.3)

or_swap : (x y z : Bool) → (x || (y || z)) ≡ (y || (x || z))
or_swap true true z = refl
or_swap true false z = refl
or_swap false y z = refl

-- the first range of the left list, where the right one does not begin before it
pub IsEarlier-left : {P : Type 0} (number_of : P → ℕ) (left right : List (Range P)) (range : Range P) (rest : List (Range P)) → left ≡ range ∷ rest → BeginsFrom number_of (number_of range.lo) right →
    IsEarlier number_of left right range rest right
IsEarlier-left number_of left right range rest taken begins = record {
  shorter = rw taken (omega arith);
  members = λ n. rw taken (sym (or-leftwards (is_within number_of range n) (holds number_of rest n) (holds number_of right n)));
  first = λ from last in_left in_right.
      let parts = rw taken at in_left in
      record {
        start = parts.0;
        filled = parts.1;
        end = parts.2;
        left_after = IsAscending-earlier number_of (number_of range.hi + 2) (number_of range.lo) last rest (omega (arith, parts.1)) parts.3;
        right_after = IsAscending-begins number_of from (number_of range.lo) last right begins in_right;
      };
}

-- the first range of the right list, where the left one does not begin before it
pub IsEarlier-right : {P : Type 0} (number_of : P → ℕ) (left right : List (Range P)) (range : Range P) (rest : List (Range P)) → right ≡ range ∷ rest → BeginsFrom number_of (number_of range.lo) left →
    IsEarlier number_of left right range left rest
IsEarlier-right number_of left right range rest taken begins = record {
  shorter = rw taken (omega arith);
  members = λ n. rw taken (or_swap (holds number_of left n) (is_within number_of range n) (holds number_of rest n));
  first = λ from last in_left in_right.
      let parts = rw taken at in_right in
      record {
        start = parts.0;
        filled = parts.1;
        end = parts.2;
        left_after = IsAscending-begins number_of from (number_of range.lo) last left begins in_left;
        right_after = IsAscending-earlier number_of (number_of range.hi + 2) (number_of range.lo) last rest (omega (arith, parts.1)) parts.3;
      };
}
