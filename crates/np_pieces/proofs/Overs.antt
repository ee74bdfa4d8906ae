-- One value at the numbers of ranges, and another at the others. For `Pieces::over` and `pieces_over`.
use Rattle.std.proofs.Common.{◌≡◌, ℕ, ◌+◌, ◌<◌, ◌≤◌, List, [], ◌∷◌, Some, None, Bool, ◌&&◌, if◌then◌else◌, refl, sym, ◌∙◌, arith, inl, inr}
use Rattle.std.proofs.lemmas.Bool.{cases_lt, and_right, le-leb, lt-leb}
use Rattle.np_base.specs.Ranges.{holds, IsAscending}
use Rattle.np_base.specs.declared.range.Range.{Range}
use Rattle.np_base.proofs.Ranges.{is_within-inside, is_within-past, holds-before, IsAscending-earlier}
use Rattle.np_sets.specs.Space.{is_between}
use Rattle.np_pieces.specs.Prelude.{ArePieces, At, Covers, GrowsTo, Piece, has_spot, value_at, value_at-before, value_at-past}

-- the value at a number: the first in the ranges, the second elsewhere
abbrev pub chosen : {P S : Type 0} → (P → ℕ) → S → S → List (Range P) → ℕ → S
chosen number_of inside outside ranges n = if holds number_of ranges n then inside else outside

-- What is made up to the number `from` has the values, and the ranges left are all that have numbers from there.
pub record IsOver {P S : Type 0} (number_of : P → ℕ) (IsWell : S → Type 0) (low high from : ℕ) (inside outside : S) (ranges rest : List (Range P)) (made : List (Piece P S)) : Type 0 where
  pub above : low ≤ from
  pub ascends : IsAscending number_of from high rest
  pub pieces : ArePieces number_of IsWell low from None made
  pub values : (n : ℕ) → low ≤ n → n < from → value_at number_of made n ≡ Some (chosen number_of inside outside ranges n)
  pub left : (n : ℕ) → from ≤ n → holds number_of ranges n ≡ holds number_of rest n

pub IsOver-init : {P S : Type 0} (number_of : P → ℕ) (IsWell : S → Type 0) (low high from : ℕ) (inside outside : S) (ranges : List (Range P)) (made : List (Piece P S)) → from ≡ low →
    IsAscending number_of low high ranges → made ≡ [] → IsOver number_of IsWell low high from inside outside ranges ranges made
IsOver-init number_of IsWell low high from inside outside ranges made first ascends none = record {
  above = omega arith;
  ascends = rw first ascends;
  pieces = rw none (sym first);
  values = λ n above below. absurd (omega arith);
  left = λ n above. refl;
}

-- past numbers that no range has
IsOver-gap : {P S : Type 0} (number_of : P → ℕ) (IsWell : S → Type 0) (low high from to : ℕ) (inside outside : S) (ranges rest : List (Range P)) (made made_after : List (Piece P S)) → from ≤ to →
    IsAscending number_of to high rest → IsOver number_of IsWell low high from inside outside ranges rest made → GrowsTo number_of IsWell from to outside made made_after →
    IsOver number_of IsWell low high to inside outside ranges rest made_after
IsOver-gap number_of IsWell low high from to inside outside ranges rest made made_after ordered ascends over grows =
    let grown = grows low over.pieces in
    record {
      above = omega (arith, over.above);
      ascends = ascends;
      pieces = grown.order;
      values = λ n above below. elim (cases_lt n from) [
        | inl before ↦ grown.before n before ∙ over.values n above before
        | inr within ↦ rw (grown.within n within below, over.left n within, holds-before number_of to high rest n ascends below)
      ];
      left = λ n past. over.left n (omega arith);
    }

-- past the next range
IsOver-range : {P S : Type 0} (number_of : P → ℕ) (IsWell : S → Type 0) (low high : ℕ) (inside outside : S) (ranges : List (Range P)) (range : Range P) (rest : List (Range P))
    (made made_after : List (Piece P S)) →
    IsOver number_of IsWell low high (number_of range.lo) inside outside ranges (range ∷ rest) made → GrowsTo number_of IsWell (number_of range.lo) (number_of range.hi + 1) inside made made_after →
    IsOver number_of IsWell low high (number_of range.hi + 1) inside outside ranges rest made_after
IsOver-range number_of IsWell low high inside outside ranges range rest made made_after over grows =
    let grown = grows low over.pieces in
    let ascends = over.ascends in
    record {
      above = omega (arith, over.above, ascends.1);
      ascends = IsAscending-earlier number_of (number_of range.hi + 2) (number_of range.hi + 1) high rest (omega arith) ascends.3;
      pieces = grown.order;
      values = λ n above below. elim (cases_lt n (number_of range.lo)) [
        | inl before ↦ grown.before n before ∙ over.values n above before
        | inr within ↦ rw (grown.within n within below, over.left n within, is_within-inside number_of range n within (omega arith))
      ];
      left = λ n past. over.left n (omega (arith, ascends.1)) ∙ rw (is_within-past number_of range n (omega arith));
    }

-- past the numbers before the next range, and past it
pub IsOver-next : {P S : Type 0} (number_of : P → ℕ) (IsWell : S → Type 0) (low high from lo hi : ℕ) (inside outside : S) (ranges left : List (Range P)) (range : Range P) (rest : List (Range P))
    (made gapped made_after : List (Piece P S)) →
    left ≡ range ∷ rest → lo ≡ number_of range.lo → hi ≡ number_of range.hi → IsOver number_of IsWell low high from inside outside ranges left made →
    GrowsTo number_of IsWell from lo outside made gapped → GrowsTo number_of IsWell lo (hi + 1) inside gapped made_after →
    IsOver number_of IsWell low high (hi + 1) inside outside ranges rest made_after
IsOver-next number_of IsWell low high from lo hi inside outside ranges left range rest made gapped made_after taken is_lo is_hi over gap run =
    let over_taken = rw taken at over in
    let ascends = over_taken.ascends in
    let past_gap = IsOver-gap number_of IsWell low high from (number_of range.lo) inside outside ranges (range ∷ rest) made gapped ascends.0 (omega arith, ascends.1, ascends.2, ascends.3) over_taken
    (rw is_lo at gap) in
    rw is_hi (IsOver-range number_of IsWell low high inside outside ranges range rest gapped made_after past_gap (rw (is_lo, is_hi) at run))

-- past all ranges
pub IsOver-end : {P S : Type 0} (number_of : P → ℕ) (IsWell : S → Type 0) (low high from to : ℕ) (inside outside : S) (ranges left : List (Range P)) (made made_after : List (Piece P S)) → left ≡ [] →
    from ≤ to → IsOver number_of IsWell low high from inside outside ranges left made → GrowsTo number_of IsWell from to outside made made_after →
    IsOver number_of IsWell low high to inside outside ranges [] made_after
IsOver-end number_of IsWell low high from to inside outside ranges left made made_after ended ordered over grows =
    IsOver-gap number_of IsWell low high from to inside outside ranges [] made made_after ordered tt (rw ended at over) grows

-- at the end of the space
pub IsOver-values : {P S : Type 0} (number_of : P → ℕ) (IsWell : S → Type 0) (low high from : ℕ) (inside outside : S) (ranges rest : List (Range P)) (made : List (Piece P S)) → from ≡ high + 1 →
    IsOver number_of IsWell low high from inside outside ranges rest made → (n : ℕ) → low ≤ n → n ≤ high → value_at number_of made n ≡ Some (chosen number_of inside outside ranges n)
IsOver-values number_of IsWell low high from inside outside ranges rest made ended over n above below = over.values n above (omega arith)

pub IsOver-covers : {P S : Type 0} (number_of : P → ℕ) (IsWell : S → Type 0) (low high from : ℕ) (inside outside : S) (ranges rest : List (Range P)) (made : List (Piece P S)) → from ≡ high + 1 →
    IsOver number_of IsWell low high from inside outside ranges rest made → Covers number_of IsWell low high made
IsOver-covers number_of IsWell low high from inside outside ranges rest made ended over = rw (← ended) over.pieces

-- the spots of such values
pub has_spot-over : {P S T : Type 0} (number_of : P → ℕ) (IsWell : S → Type 0) (has : S → T → Bool) (low high : ℕ) (inside outside : S) (ranges : List (Range P)) (made : List (Piece P S)) →
    Covers number_of IsWell low high made → ((n : ℕ) → low ≤ n → n ≤ high → value_at number_of made n ≡ Some (chosen number_of inside outside ranges n)) → (place : At P T) →
    has_spot number_of has made place ≡ (is_between low high (number_of place.point) && has (chosen number_of inside outside ranges (number_of place.point)) place.spot)
has_spot-over number_of IsWell has low high inside outside ranges made covers values place =
    let n = number_of place.point in
    elim (cases_lt n low) [
      | inl before ↦ rw (value_at-before number_of IsWell low (high + 1) None made n covers before, lt-leb low n before)
      | inr above ↦ elim (cases_lt high n) [
        | inl past ↦ rw (value_at-past number_of IsWell low (high + 1) None made n covers (omega arith), and_right _ _ (lt-leb n high past))
        | inr below ↦ rw (values n above below, le-leb low n above, le-leb n high below)
      ]
    ]
