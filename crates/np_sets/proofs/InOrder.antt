-- Points one after another. For `point_ranges`.
use Rattle.std.proofs.Common.{◌≡◌, ℕ, ◌≤◌, ◌==◌, ◌||◌, List, [], ◌∷◌, Bool, length, arith, refl, false, sym}
use Rattle.std.specs.List.{list_any}
use Rattle.std.specs.List.Sorted.{IsNonDecreasingBy}
use Rattle.std.proofs.lemmas.List.Sorted.{IsNonDecreasingBy-drop}
use Rattle.np_base.specs.Ranges.{is_within, holds}
use Rattle.np_base.specs.declared.range.Range.{Range}
use Rattle.np_base.proofs.Bools.{or-leftwards}

-- none has a number below `from`, and they ascend, equal ones beside each other
abbrev pub AscendFrom : {P : Type 0} → (P → ℕ) → ℕ → List P → Type 0
AscendFrom number_of from [] = Unit {0}
AscendFrom number_of from (point ∷ points) = (from ≤ number_of point) × AscendFrom number_of (number_of point) points

pub AscendFrom-rest : {P : Type 0} (number_of : P → ℕ) (point : P) (points : List P) → IsNonDecreasingBy number_of (point ∷ points) → AscendFrom number_of (number_of point) points
AscendFrom-rest number_of point [] ordered = tt
AscendFrom-rest number_of point (next ∷ points) ordered =
    (ordered 0 1 point (omega arith) (omega arith), AscendFrom-rest number_of next points (IsNonDecreasingBy-drop number_of 1 (point ∷ next ∷ points) ordered))

pub AscendFrom-lower : {P : Type 0} (number_of : P → ℕ) (low from : ℕ) (points : List P) → low ≤ from → AscendFrom number_of from points → AscendFrom number_of low points
AscendFrom-lower number_of low from [] below ordered = tt
AscendFrom-lower number_of low from (next ∷ points) below ordered = (omega arith, ordered.1)

-- a range of one point has its number alone
pub is_within-alone : {P : Type 0} (number_of : P → ℕ) (point : P) (n : ℕ) → is_within number_of (record { lo = point; hi = point }) n ≡ (number_of point == n)
is_within-alone number_of point n = grind arith

-- a point more is one number more
pub members-more : {P : Type 0} (number_of : P → ℕ) (made made' : List (Range P)) (growing grown : Range P) (next : P) (others : List P) (n : ℕ) →
    (holds number_of made' n || is_within number_of grown n) ≡ ((holds number_of made n || is_within number_of growing n) || is_within number_of (record { lo = next; hi = next }) n) →
    ((holds number_of made' n || is_within number_of grown n) || list_any (λ point. number_of point == n) others)
    ≡ ((holds number_of made n || is_within number_of growing n) || list_any (λ point. number_of point == n) (next ∷ others))
members-more number_of made made' growing grown next others n adds = rw (adds, is_within-alone number_of next n)
    (sym (or-leftwards (holds number_of made n || is_within number_of growing n) (number_of next == n) (list_any (λ point. number_of point == n) others)))

-- where none is left, none has a number
pub none-left : {P : Type 0} (p : P → Bool) (points : List P) → length points ≡ 0 → list_any p points ≡ false
none-left p [] none = refl
none-left p (point ∷ points) none = absurd (omega arith)
