-- Lists of ranges with the same numbers, and with others. For `IntervalSetCells::is_empty` and `IntervalSetCells::same`.
use Rattle.std.proofs.Common.{◌≡◌, ℕ, ◌+◌, ◌<◌, ◌≤◌, List, [], ◌∷◌, Bool, true, false, not, MatchBool, length, ◌==◌, refl, sym, arith, inl, inr}
use Rattle.std.proofs.lemmas.Bool.{and_parts, or_from, or_left, eqb-true, eq-eqb, and_from, cases_order, false≢true, true≢false}
use Rattle.std.proofs.lemmas.Bool.Decides.{nat_tests}
use Rattle.np_base.specs.Ranges.{holds, IsAscending}
use Rattle.np_base.specs.declared.range.Range.{Range}
use Rattle.np_base.proofs.Ranges.{holds-before, is_within-inside, is_within-past, IsAscending-earlier}
use Rattle.np_sets.specs.Alike.{is_alike, are_alike}
use Rattle.np_sets.specs.Laws.{same_points_same_ranges}

-- lists between the same numbers hold the same
holds-alike : {P : Type 0} (number_of : P → ℕ) (a b : List (Range P)) (n : ℕ) → are_alike number_of a b ≡ true → holds number_of a n ≡ holds number_of b n
holds-alike number_of [] [] n alike = refl
holds-alike number_of [] (b ∷ b_rest) n alike = absurd (false≢true alike)
holds-alike number_of (a ∷ a_rest) [] n alike = absurd (false≢true alike)
holds-alike number_of (a ∷ a_rest) (b ∷ b_rest) n alike =
    let parts = and_parts (is_alike number_of a b) (are_alike number_of a_rest b_rest) alike in
    let ends = and_parts (number_of a.lo == number_of b.lo) (number_of a.hi == number_of b.hi) parts.0 in
    rw (eqb-true (number_of a.lo) (number_of b.lo) ends.0, eqb-true (number_of a.hi) (number_of b.hi) ends.1, holds-alike number_of a_rest b_rest n parts.1)

-- a number from one to another that one of two lists has and the other has not
pub record IsApart {P : Type 0} (number_of : P → ℕ) (from last : ℕ) (a b : List (Range P)) (n : ℕ) : Type 0 where
  pub above : from ≤ n
  pub below : n ≤ last
  pub apart : holds number_of a n ≡ not (holds number_of b n)

not_flipped : (x y : Bool) → x ≡ not y → y ≡ not x
not_flipped true true apart = absurd (true≢false apart)
not_flipped true false apart = refl
not_flipped false true apart = refl
not_flipped false false apart = absurd (false≢true apart)

apart_flipped : {P : Type 0} (number_of : P → ℕ) (from last : ℕ) (a b : List (Range P)) → (n : ℕ) × IsApart number_of from last a b n → (n : ℕ) × IsApart number_of from last b a n
apart_flipped number_of from last a b (n, parts) = (n, record { above = parts.above; below = parts.below; apart = not_flipped (holds number_of a n) (holds number_of b n) parts.apart })

apart_at : {P : Type 0} (number_of : P → ℕ) (from last : ℕ) (a b : List (Range P)) (n : ℕ) → from ≤ n → n ≤ last → holds number_of a n ≡ true → holds number_of b n ≡ false →
    (n : ℕ) × IsApart number_of from last a b n
apart_at number_of from last a b n above below has lacks = (n, record { above = above; below = below; apart = rw (has, lacks) })

-- a list that begins before another has its first number alone
apart_by_start : {P : Type 0} (number_of : P → ℕ) (from last : ℕ) (a : Range P) (a_rest b : List (Range P)) → IsAscending number_of from last (a ∷ a_rest) →
    IsAscending number_of (number_of a.lo + 1) last b → (n : ℕ) × IsApart number_of from last (a ∷ a_rest) b n
apart_by_start number_of from last a a_rest b in_a in_b =
    apart_at number_of from last (a ∷ a_rest) b (number_of a.lo) in_a.0 (omega (arith, in_a.1, in_a.2)) (or_left _ _ (is_within-inside number_of a (number_of a.lo) (omega arith) in_a.1))
    (holds-before number_of (number_of a.lo + 1) last b (number_of a.lo) in_b (omega arith))

-- of two lists that begin together, one whose first range ends later has the number past the other's end alone
apart_by_end : {P : Type 0} (number_of : P → ℕ) (from last : ℕ) (a : Range P) (a_rest : List (Range P)) (b : Range P) (b_rest : List (Range P)) → IsAscending number_of from last (a ∷ a_rest) →
    IsAscending number_of from last (b ∷ b_rest) → number_of a.lo ≤ number_of b.hi → number_of b.hi < number_of a.hi → (n : ℕ) × IsApart number_of from last (a ∷ a_rest) (b ∷ b_rest) n
apart_by_end number_of from last a a_rest b b_rest in_a in_b start end =
    let n = number_of b.hi + 1 in
    apart_at number_of from last (a ∷ a_rest) (b ∷ b_rest) n (omega (arith, in_b.0, in_b.1)) (omega (arith, in_a.2))
    (or_left _ _ (is_within-inside number_of a n (omega arith) (omega arith)))
    (or_from _ _ (is_within-past number_of b n (omega arith)) (holds-before number_of (number_of b.hi + 2) last b_rest n in_b.3 (omega arith)))

-- past first ranges that end together, a number that tells the rests apart tells the lists apart
apart_by_rest : {P : Type 0} (number_of : P → ℕ) (from last : ℕ) (a : Range P) (a_rest : List (Range P)) (b : Range P) (b_rest : List (Range P)) → from ≤ number_of a.hi →
    number_of a.hi ≡ number_of b.hi → (n : ℕ) × IsApart number_of (number_of a.hi + 2) last a_rest b_rest n → (n : ℕ) × IsApart number_of from last (a ∷ a_rest) (b ∷ b_rest) n
apart_by_rest number_of from last a a_rest b b_rest before together (n, parts) = (
  n,
  record {
    above = omega (arith, parts.above);
    below = parts.below;
    apart = rw (is_within-past number_of a n (omega (arith, parts.above)), is_within-past number_of b n (omega (arith, parts.above))) parts.apart;
  },
)

-- lists that are not between the same numbers are told apart by some number
apart_from_unlike : {P : Type 0} (number_of : P → ℕ) (from last : ℕ) (a b : List (Range P)) → IsAscending number_of from last a → IsAscending number_of from last b → are_alike number_of a b ≡ false →
    (n : ℕ) × IsApart number_of from last a b n
apart_from_unlike number_of from last [] [] in_a in_b unlike = absurd (true≢false unlike)
apart_from_unlike number_of from last [] (b ∷ b_rest) in_a in_b unlike = apart_flipped number_of from last (b ∷ b_rest) [] (apart_by_start number_of from last b b_rest [] in_b tt)
apart_from_unlike number_of from last (a ∷ a_rest) [] in_a in_b unlike = apart_by_start number_of from last a a_rest [] in_a tt
apart_from_unlike number_of from last (a ∷ a_rest) (b ∷ b_rest) in_a in_b unlike =
    elim (cases_order (number_of a.lo) (number_of b.lo)) [
      | inr (inl before) ↦ apart_by_start number_of from last a a_rest (b ∷ b_rest) in_a (omega arith, in_b.1, in_b.2, in_b.3)
      | inr (inr after) ↦ apart_flipped number_of from last (b ∷ b_rest) (a ∷ a_rest) (apart_by_start number_of from last b b_rest (a ∷ a_rest) in_b (omega arith, in_a.1, in_a.2, in_a.3))
      | inl start ↦ elim (cases_order (number_of a.hi) (number_of b.hi)) [
        | inr (inl before) ↦ apart_flipped number_of from last (b ∷ b_rest) (a ∷ a_rest) (apart_by_end number_of from last b b_rest a a_rest in_b in_a (omega (arith, in_a.1)) before)
        | inr (inr after) ↦ apart_by_end number_of from last a a_rest b b_rest in_a in_b (omega (arith, in_b.1)) after
        | inl end ↦
            let first : is_alike number_of a b ≡ true = and_from _ _ (eq-eqb (number_of a.lo) (number_of b.lo) start) (eq-eqb (number_of a.hi) (number_of b.hi) end) in
            apart_by_rest number_of from last a a_rest b b_rest (omega (arith, in_a.0, in_a.1)) end
            (apart_from_unlike number_of (number_of a.hi + 2) last a_rest b_rest in_a.3 (IsAscending-earlier number_of (number_of b.hi + 2) (number_of a.hi + 2) last b_rest (omega arith) in_b.3)
            (rw first at unlike))
      ]
    ]

-- Lists between the same numbers are equal, and others are told apart by some point.
pub same_or_apart : {P : Type 0} (number_of : P → ℕ) (point_of : ℕ → P) (low high : ℕ) → ((n : ℕ) → low ≤ n → n ≤ high → number_of (point_of n) ≡ n) →
    ((p : P) → low ≤ number_of p → number_of p ≤ high → point_of (number_of p) ≡ p) → (a b : List (Range P)) → IsAscending number_of low high a → IsAscending number_of low high b → (answer : Bool) →
    answer ≡ are_alike number_of a b → MatchBool answer (a ≡ b) ((p : P) × (holds number_of a (number_of p) ≡ not (holds number_of b (number_of p))))
same_or_apart number_of point_of low high number_of_point point_of_number a b in_a in_b true alike =
    same_points_same_ranges number_of point_of low high number_of_point point_of_number a b in_a in_b (λ p. holds-alike number_of a b (number_of p) (sym alike))
same_or_apart number_of point_of low high number_of_point point_of_number a b in_a in_b false unlike =
    let told = apart_from_unlike number_of low high a b in_a in_b (sym unlike) in
    (point_of told.0, rw (number_of_point told.0 told.1.above told.1.below) told.1.apart)

-- a list with no range has no point, and another has the first point of its first range
pub empty_or_filled : {P : Type 0} (number_of : P → ℕ) (from last : ℕ) (ranges : List (Range P)) → IsAscending number_of from last ranges → (answer : Bool) → answer ≡ (length ranges == 0) →
    MatchBool answer ((p : P) → holds number_of ranges (number_of p) ≡ false) ((p : P) × (holds number_of ranges (number_of p) ≡ true))
empty_or_filled number_of from last [] ascends true none = λ p. refl
empty_or_filled number_of from last [] ascends false none = absurd (false≢true none)
empty_or_filled number_of from last (range ∷ ranges) ascends true none = absurd (grind (arith, nat_tests))
empty_or_filled number_of from last (range ∷ ranges) ascends false none = (range.lo, or_left _ _ (is_within-inside number_of range (number_of range.lo) (omega arith) ascends.1))
