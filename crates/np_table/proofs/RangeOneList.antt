-- No two lists are right. For `equal_tests_have_one_list`, `one_list_is_right` and crates above.
use Rattle.std.proofs.Common.{◌≡◌, ℕ, ◌+◌, ◌<◌, ◌≤◌, List, [], ◌∷◌, Bool, true, Option, Some, None, refl, sym, ◌∙◌, ap, arith, inl, inr}
use Rattle.std.proofs.lemmas.Bool.{cases_order}
use Rattle.np_conns.specs.Prelude.{Conns, conns_of, is_spot}
use Rattle.np_table.specs.Prelude.{AreRight, IsRight, PortSpot, Stretch, walk}
use Rattle.np_conns.proofs.ConnLemmas.{conns_of-agrees}
use Rattle.np_table.proofs.RangeWalks.{walk-right}

-- stretches do not end before they begin
pub AreRight-ordered : (passes : ℕ → PortSpot → Bool) (from to : ℕ) (before : Option Conns) (stretches : List Stretch) → AreRight passes from to before stretches → from ≤ to
AreRight-ordered passes from to before [] are = omega arith
AreRight-ordered passes from to before (stretch ∷ stretches) are =
    omega (arith, are.0.start, are.0.filled, AreRight-ordered passes (stretch.hi + 1) to (Some stretch.conns) stretches are.1)

-- of two right lists, the first stretch of one does not end before that of the other
no_earlier_end : (passes : ℕ → PortSpot → Bool) (from to : ℕ) (a : Stretch) (a_rest : List Stretch) (b : Stretch) (b_rest : List Stretch) → a.lo ≤ a.hi → b.lo ≤ a.lo → a.conns ≡ b.conns →
    ((n : ℕ) → b.lo ≤ n → n ≤ b.hi → conns_of (passes n) ≡ b.conns) → AreRight passes (a.hi + 1) to (Some a.conns) a_rest → AreRight passes (b.hi + 1) to (Some b.conns) b_rest → a.hi < b.hi → ⊥
no_earlier_end passes from to a [] b b_rest filled start same of_b in_a in_b earlier =
    omega (arith, AreRight-ordered passes (b.hi + 1) to (Some b.conns) b_rest in_b)
no_earlier_end passes from to a (next ∷ a_rest) b b_rest filled start same of_b in_a in_b earlier =
    let n = a.hi + 1 in
    let of_next : conns_of (passes n) ≡ next.conns = in_a.0.conns n (omega (arith, in_a.0.start)) (omega (arith, in_a.0.start, in_a.0.filled)) in
    in_a.0.differs (ap (λ (conns : Conns). Some conns) (same ∙ sym (of_b n (omega arith) (omega arith)) ∙ of_next))

equal_stretches : (a b : Stretch) → a.lo ≡ b.lo → a.hi ≡ b.hi → a.conns ≡ b.conns → a ≡ b
equal_stretches a b lo hi conns =
    let with_lo : ℕ → Stretch = λ n. record { lo = n; hi = a.hi; conns = a.conns } in
    let with_hi : ℕ → Stretch = λ n. record { lo = b.lo; hi = n; conns = a.conns } in
    let with_conns : Conns → Stretch = λ c. record { lo = b.lo; hi = b.hi; conns = c } in
    ap with_lo lo ∙ ap with_hi hi ∙ ap with_conns conns

-- lists that are right from one number on are equal, whatever stands before them
AreRight-one : (passes : ℕ → PortSpot → Bool) (from to : ℕ) (before before' : Option Conns) (a_all b_all : List Stretch) → AreRight passes from to before a_all →
    AreRight passes from to before' b_all → a_all ≡ b_all
AreRight-one passes from to before before' [] [] in_a in_b = refl
AreRight-one passes from to before before' [] (b ∷ b_rest) in_a in_b =
    absurd (omega (arith, in_b.0.start, in_b.0.filled, AreRight-ordered passes (b.hi + 1) to (Some b.conns) b_rest in_b.1))
AreRight-one passes from to before before' (a ∷ a_rest) [] in_a in_b =
    absurd (omega (arith, in_a.0.start, in_a.0.filled, AreRight-ordered passes (a.hi + 1) to (Some a.conns) a_rest in_a.1))
AreRight-one passes from to before before' (a ∷ a_rest) (b ∷ b_rest) in_a in_b =
    let lo : a.lo ≡ b.lo = in_a.0.start ∙ sym in_b.0.start in
    let conns : a.conns ≡ b.conns = sym (in_a.0.conns from (omega (arith, in_a.0.start)) (omega (arith, in_a.0.start, in_a.0.filled))) ∙ in_b.0.conns from (omega (arith, in_b.0.start))
    (omega (arith, in_b.0.start, in_b.0.filled)) in
    let hi : a.hi ≡ b.hi = elim (cases_order a.hi b.hi) [
      | inl equal ↦ equal
      | inr (inl earlier) ↦ absurd (no_earlier_end passes from to a a_rest b b_rest in_a.0.filled (omega arith) conns in_b.0.conns in_a.1 in_b.1 earlier)
      | inr (inr later) ↦ absurd (no_earlier_end passes from to b b_rest a a_rest in_b.0.filled (omega arith) (sym conns) in_a.0.conns in_b.1 in_a.1 later)
    ] in
    let rest : a_rest ≡ b_rest = AreRight-one passes (a.hi + 1) to (Some a.conns) (Some b.conns) a_rest b_rest in_a.1 (rw hi in_b.1) in
    ap (λ (stretch : Stretch). stretch ∷ a_rest) (equal_stretches a b lo hi conns) ∙ ap (λ (stretches : List Stretch). b ∷ stretches) rest

-- a right list is the one that the walk builds
pub right-walk : (passes : ℕ → PortSpot → Bool) (low high : ℕ) (stretches : List Stretch) → low ≤ high → IsRight passes low high stretches → stretches ≡ walk passes low high
right-walk passes low high stretches ordered right =
    AreRight-one passes low (high + 1) None None stretches (walk passes low high) right (walk-right passes low high ordered)

-- what is right for a test is right for one with the same connections at each number
AreRight-agrees : (passes passes' : ℕ → PortSpot → Bool) (from to : ℕ) (before : Option Conns) (stretches : List Stretch) → ((n : ℕ) → from ≤ n → n < to → conns_of (passes n) ≡ conns_of (passes' n)) →
    AreRight passes from to before stretches → AreRight passes' from to before stretches
AreRight-agrees passes passes' from to before [] alike are = are
AreRight-agrees passes passes' from to before (stretch ∷ stretches) alike are =
    let ends = AreRight-ordered passes (stretch.hi + 1) to (Some stretch.conns) stretches are.1 in (
      record {
        start = are.0.start;
        filled = are.0.filled;
        conns = λ n above below. sym (alike n (omega (arith, are.0.start)) (omega arith)) ∙ are.0.conns n above below;
        differs = are.0.differs;
      },
      AreRight-agrees passes passes' (stretch.hi + 1) to (Some stretch.conns) stretches (λ n above below. alike n (omega (arith, are.0.start, are.0.filled)) below) are.1,
    )

-- tests that agree on every port of every number have one list
pub walk-agrees : (passes passes' : ℕ → PortSpot → Bool) (low high : ℕ) → low ≤ high → ((n : ℕ) (spot : PortSpot) → low ≤ n → n ≤ high → is_spot spot ≡ true → passes n spot ≡ passes' n spot) →
    walk passes low high ≡ walk passes' low high
walk-agrees passes passes' low high ordered alike =
    let same : (n : ℕ) → low ≤ n → n < high + 1 → conns_of (passes n) ≡ conns_of (passes' n) = λ n above below. conns_of-agrees (passes n) (passes' n)
    (λ spot is. alike n spot above (omega arith) is) in
    right-walk passes' low high (walk passes low high) ordered (AreRight-agrees passes passes' low (high + 1) None (walk passes low high) same (walk-right passes low high ordered))
