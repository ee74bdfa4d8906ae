-- Where a text has its first `::`. For `split_gap`.
use Rattle.std.proofs.Common.{◌≡◌, ℕ, zero, suc, ◌+◌, ◌<◌, ◌≤◌, Bool, true, false, cond, ◌==◌, ◌&&◌, List, [], ◌∷◌, ◌++◌, length, take, drop, Option, Some, None, option_map, All, MatchOption, refl, ap, ◌∙◌, inl, inr, arith}
use Rattle.std.proofs.lemmas.Bool.{cases_Bool, and_parts, eqb-true}
use Rattle.std.proofs.lemmas.Option.{none-some, some_pair_parts}
use Rattle.std.proofs.lemmas.List.Elements.{All-head, All-tail}
use Rattle.std.specs.Borrow.{Bor}
use Rattle.std.specs.Str.Pattern.{LacksTextAt, FindsText}
use Rattle.np_addr.specs.Prelude.{around_gap}
use Rattle.np_addr.proofs.PieceLemmas.{IsOther}

-- two bytes that are both colons
starts_gap : (a b : ℕ) (text : List ℕ) → ((a == 58) && (b == 58)) ≡ true → a ∷ b ∷ text ≡ (58 ∷ 58 ∷ []) ++ text
starts_gap a b text colons =
    let parts = and_parts _ _ colons in
    rw (eqb-true a 58 parts.0, eqb-true b 58 parts.1)

around_gap-none : (text : List ℕ) → ((i : ℕ) → i ≤ length text → LacksTextAt (58 ∷ 58 ∷ []) text i) → around_gap text ≡ None
around_gap-none [] lacks = refl
around_gap-none (a ∷ []) lacks = refl
around_gap-none (a ∷ b ∷ text) lacks =
    elim (cases_Bool ((a == 58) && (b == 58))) [
      | inl colons ↦ absurd (lacks 0 (omega arith) text (starts_gap a b text colons))
      | inr other ↦ rw (other, around_gap-none (b ∷ text) (λ i within. lacks (suc i) (omega arith)))
    ]

around_gap-some : (text : List ℕ) (i : ℕ) (after : List ℕ) → ((k : ℕ) → k < i → LacksTextAt (58 ∷ 58 ∷ []) text k) → drop i text ≡ (58 ∷ 58 ∷ []) ++ after → around_gap text ≡ Some (take i text, after)
around_gap-some [] zero after lacks here = cc
around_gap-some [] (suc i) after lacks here = cc
around_gap-some (a ∷ []) zero after lacks here = cc
around_gap-some (a ∷ []) (suc zero) after lacks here = cc
around_gap-some (a ∷ []) (suc (suc i)) after lacks here = cc
around_gap-some (a ∷ b ∷ text) zero after lacks here = ap around_gap here
around_gap-some (a ∷ b ∷ text) (suc i) after lacks here =
    elim (cases_Bool ((a == 58) && (b == 58))) [
      | inl colons ↦ absurd (lacks 0 (omega arith) text (starts_gap a b text colons))
      | inr other ↦ rw (other, around_gap-some (b ∷ text) i after (λ k below. lacks (suc k) (omega arith)) here)
    ]

-- what `split_once` finds
pub around_gap-found : (text : List ℕ) (r : Option (Bor (List ℕ) × Bor (List ℕ))) →
    MatchOption r (FindsText (58 ∷ 58 ∷ []) text None) (λ x. (i : ℕ) × (j : ℕ) × FindsText (58 ∷ 58 ∷ []) text (Some (i, j)) × (x.0.now ≡ take i text) × (x.1.now ≡ drop j text) × (i ≤ j) ×
    (length x.0.now ≡ i) × (length x.1.now + j ≡ length text)) →
    MatchOption r (around_gap text ≡ None) (λ sides. around_gap text ≡ Some (sides.0.now, sides.1.now))
around_gap-found text None finds = around_gap-none text finds
around_gap-found text (Some sides) finds =
    let (i, j, found, before, after, _, _, _) = finds in
    rw (before, after) (around_gap-some text i (drop j text) found.0 found.1.split)

-- a piece before a text without a gap makes none
around_gap-other : (b : ℕ) (text : List ℕ) → (b == 58) ≡ false → around_gap text ≡ None → around_gap (b ∷ text) ≡ None
around_gap-other b [] other none = refl
around_gap-other b (c ∷ text) other none = rw (other, none)

-- nor does a colon before another byte
pub around_gap-colon : (c : ℕ) (text : List ℕ) → (c == 58) ≡ false → around_gap (c ∷ text) ≡ None → around_gap (58 ∷ c ∷ text) ≡ None
around_gap-colon c text other none = rw (other, none)

pub around_gap-piece : (piece text : List ℕ) → All (IsOther 58) piece → around_gap text ≡ None → around_gap (piece ++ text) ≡ None
around_gap-piece [] text others none = none
around_gap-piece (b ∷ piece) text others none =
    around_gap-other b (piece ++ text) (All-head (IsOther 58) b piece others) (around_gap-piece piece text (All-tail (IsOther 58) b piece others) none)

-- where there is no gap, the first two bytes are none, nor is there one later
no_gap_parts : (here : Bool) (sides : List ℕ × List ℕ) (first : ℕ) (later : Option (List ℕ × List ℕ)) →
    cond here (Some sides) (option_map (λ (found : List ℕ × List ℕ). (first ∷ found.0, found.1)) later) ≡ None → (here ≡ false) × (later ≡ None)
no_gap_parts true sides first later none = cc
no_gap_parts false sides first None none = (refl, refl)
no_gap_parts false sides first (Some found) none = cc

-- a text that has no gap and ends before a colon, and then a second colon
pub gap_after : (before after : List ℕ) → around_gap (before ++ 58 ∷ []) ≡ None → around_gap (before ++ 58 ∷ 58 ∷ after) ≡ Some (before, after)
gap_after [] after none = refl
gap_after (a ∷ []) after none =
    let parts = no_gap_parts _ ([], []) a (around_gap (58 ∷ [])) none in
    rw parts.0
gap_after (a ∷ b ∷ before) after none =
    let parts = no_gap_parts _ ([], before ++ 58 ∷ []) a (around_gap (b ∷ (before ++ 58 ∷ []))) none in
    rw (parts.0, gap_after (b ∷ before) after parts.1)

-- what is found is there
spelled_later : (a b : ℕ) (text before after : List ℕ) (o : Option (List ℕ × List ℕ)) → ((sides : List ℕ × List ℕ) → o ≡ Some sides → b ∷ text ≡ sides.0 ++ 58 ∷ 58 ∷ sides.1) →
    option_map {U = List ℕ × List ℕ} (λ (sides : List ℕ × List ℕ). (a ∷ sides.0, sides.1)) o ≡ Some (before, after) → a ∷ b ∷ text ≡ before ++ 58 ∷ 58 ∷ after
spelled_later a b text before after None later found = absurd (none-some _ found)
spelled_later a b text before after (Some sides) later found =
    let parts = some_pair_parts (a ∷ sides.0) before sides.1 after found in
    ap (λ t. a ∷ t) (later sides refl) ∙ (λ k. parts.0 k ++ 58 ∷ 58 ∷ parts.1 k)

pub around_gap-spelled : (text before after : List ℕ) → around_gap text ≡ Some (before, after) → text ≡ before ++ 58 ∷ 58 ∷ after
around_gap-spelled [] before after found = absurd (none-some _ found)
around_gap-spelled (a ∷ []) before after found = absurd (none-some _ found)
around_gap-spelled (a ∷ b ∷ text) before after found =
    elim (cases_Bool ((a == 58) && (b == 58))) [
      | inl colons ↦
          let parts = some_pair_parts [] before text after (rw colons at found) in
          starts_gap a b text colons ∙ (λ k. parts.0 k ++ 58 ∷ 58 ∷ parts.1 k)
      | inr other ↦
          spelled_later a b text before after (around_gap (b ∷ text)) (λ sides is. around_gap-spelled (b ∷ text) sides.0 sides.1 is) (rw other at found)
    ]
