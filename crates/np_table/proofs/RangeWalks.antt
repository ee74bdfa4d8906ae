-- The walk from number to number builds a right list. For `one_list_is_right` and crates above.
use Rattle.std.proofs.Common.{◌≡◌, ◌≢◌, ℕ, zero, suc, ◌+◌, ◌≤◌, Bool, Option, Some, None, refl, ◌∙◌, ap, arith, inl, inr}
use Rattle.std.proofs.lemmas.Bool.{cases_lt, cond_both}
use Rattle.std.proofs.lemmas.Bool.Decides.{not_from_Decides}
use Rattle.np_conns.specs.Prelude.{Conns, are_same_conns, conns_of}
use Rattle.np_table.specs.Prelude.{AreRight, IsNext, IsRight, PortSpot, Stretch, stretch_at, walk, walk_on}
use Rattle.np_conns.proofs.ConnLemmas.{are_same_conns-Decides}

-- a number alone may be the next stretch where other connections pass before it
IsNext-stretch_at : (passes : ℕ → PortSpot → Bool) (from : ℕ) (before : Option Conns) → before ≢ Some (conns_of (passes from)) → IsNext passes from before (stretch_at passes from)
IsNext-stretch_at passes from before differs = record {
  start = refl;
  filled = omega arith;
  conns = λ n above below. let here : n ≡ from = omega arith in ap (λ (m : ℕ). conns_of (passes m)) here;
  differs = differs;
}

-- a stretch may grow by a number where the same connections pass
IsNext-grown : (passes : ℕ → PortSpot → Bool) (from : ℕ) (before : Option Conns) (last : Stretch) → IsNext passes from before last → conns_of (passes (last.hi + 1)) ≡ last.conns →
    IsNext passes from before (record last { hi = last.hi + 1 })
IsNext-grown passes from before last next same = record {
  start = next.start;
  filled = omega (arith, next.filled);
  conns = λ n above below. elim (cases_lt last.hi n) [
    | inl past ↦ let here : n ≡ last.hi + 1 = omega arith in ap (λ (m : ℕ). conns_of (passes m)) here ∙ same
    | inr within ↦ next.conns n above within
  ];
  differs = next.differs;
}

same_conns : (a b : Conns) → Some a ≡ Some b → b ≡ a
same_conns a b same = cc

-- the list that begins with a stretch that may stand there is right, as far as the walk goes
walk_on-right : (passes : ℕ → PortSpot → Bool) (from to : ℕ) (before : Option Conns) (last : Stretch) (count : ℕ) → last.hi + 1 + count ≡ to → IsNext passes from before last →
    AreRight passes from to before (walk_on passes last count)
walk_on-right passes from to before last zero ends next = (next, omega arith)
walk_on-right passes from to before last (suc count) ends next =
    let n = last.hi + 1 in
    let same = are_same_conns (conns_of (passes n)) last.conns in
    let decides = are_same_conns-Decides (conns_of (passes n)) last.conns in
    cond_both same _ _ (λ stretches. AreRight passes from to before stretches)
    (λ grows. walk_on-right passes from to before (record last { hi = n }) count (omega arith) (IsNext-grown passes from before last next (decides.0 grows)))
    (λ changes.
    let other : Some last.conns ≢ Some (conns_of (passes n)) = λ equal. not_from_Decides same decides changes (same_conns last.conns (conns_of (passes n)) equal) in
    (next, walk_on-right passes n to (Some last.conns) (stretch_at passes n) count (omega arith) (IsNext-stretch_at passes n (Some last.conns) other)))

-- over a whole space
pub walk-right : (passes : ℕ → PortSpot → Bool) (low high : ℕ) → low ≤ high → IsRight passes low high (walk passes low high)
unfolding walk
walk-right passes low high ordered =
    walk_on-right passes low (high + 1) None (stretch_at passes low) _ (omega arith) (IsNext-stretch_at passes low None (λ same. cc))
