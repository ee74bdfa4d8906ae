-- Chains without a cycle end. For `chains_end`, `owners_share_the_top` and crates above.
use Rattle.std.proofs.Common.{◌≡◌, ◌≢◌, inl, inr, ℕ, zero, suc, ◌+◌, ◌-◌, ◌<◌, ◌≤◌, List, [], ◌∷◌, length, Bool, true, false, ◌||◌, Option, Some, None, nat_eq, eq-eqb, refl, sym, subst, ap, ◌∙◌, arith}
use Rattle.std.specs.Prelude.{find}
use Rattle.std.specs.List.{list_any, range_with_len}
use Rattle.std.proofs.Math.Bool.{or-true}
use Rattle.std.proofs.Math.Numerals.{suc-eq-add-one}
use Rattle.std.proofs.Math.Nat.{zero-add, suc-add, eq-or-lt_of_le}
use Rattle.std.proofs.lemmas.Bool.{cases_order}
use Rattle.std.proofs.lemmas.Option.{none-some}
use Rattle.np_owners.specs.Prelude.{IsChains, chain, first_cycle, last_of, owns_itself, top, up}
use Rattle.np_owners.proofs.Pigeonhole.{pigeonhole}
use Rattle.np_owners.proofs.Walks.{up_within, chain_some, chain_none}

-- the last of a list is in it
last_in : (next : ℕ) (rest : List ℕ) → list_any (λ owner. nat_eq owner (last_of next rest)) (next ∷ rest) ≡ true
last_in next [] = rw (eq-eqb next next refl) refl
last_in next (other ∷ rest) = rw (last_in other rest) (or-true (nat_eq next (last_of other rest)))

-- where no number passes, each of them fails
find_none : (test : ℕ → Bool) (from n : ℕ) → find test (range_with_len from n) ≡ None → (k : ℕ) → from ≤ k → k < from + n → test k ≡ false
find_none test from zero nothing k above below = absurd (omega (arith, above, below))
find_none test from (suc n) nothing k above below =
    by (test from) refl (λ none later. find_none test (from + 1) n none k (omega (arith, later)) (omega (arith, below)))
  where
    by : (b : Bool) → test from ≡ b → (find test (range_with_len (from + 1) n) ≡ None → from < k → test k ≡ false) → test k ≡ false
    by true is rest = absurd (none-some from (sym nothing ∙ rw is refl))
    by false is rest = elim (eq-or-lt_of_le above) [
      | inl same ↦ subst (λ (i : ℕ). test i ≡ false) same is
      | inr later ↦ rest (rw is at nothing) later
    ]

module _ (ups : List (Option ℕ)) where
  -- where a walk of at most so many steps leads
  abbrev walk : ℕ → ℕ → ℕ
  walk steps place = last_of place (chain ups steps place)

  walk_stuck : (steps place : ℕ) → up ups place ≡ None → walk steps place ≡ place
  walk_stuck steps place is = rw (chain_none ups steps place is) refl

  walk_more : (steps place above : ℕ) → up ups place ≡ Some above → walk (suc steps) place ≡ walk steps above
  walk_more steps place above is = rw (chain_some ups (suc steps) steps place above refl is) refl

  walk_add : (first more place : ℕ) → walk (first + more) place ≡ walk more (walk first place)
  walk_add zero more place = rw (zero-add more) refl
  walk_add (suc first) more place = by (up ups place) refl (λ above. walk_add first more above)
    where
      by : (o : Option ℕ) → up ups place ≡ o → ((above : ℕ) → walk (first + more) above ≡ walk more (walk first above)) → walk (suc first + more) place ≡ walk more (walk (suc first) place)
      by None is rest = walk_stuck (suc first + more) place is ∙ sym (rw (walk_stuck (suc first) place is) (walk_stuck more place is))
      by (Some above) is rest = rw (suc-add first more, walk_more (first + more) place above is, walk_more first place above is) (rest above)

  -- a walk leads to a place of the list
  walk_within : IsChains ups → (steps place : ℕ) → place < length ups → walk steps place < length ups
  walk_within chains zero place within = within
  walk_within chains (suc steps) place within = by (up ups place) refl (λ above. walk_within chains steps above)
    where
      by : (o : Option ℕ) → up ups place ≡ o → ((above : ℕ) → above < length ups → walk steps above < length ups) → walk (suc steps) place < length ups
      by None is rest = rw (walk_stuck (suc steps) place is) within
      by (Some above) is rest = rw (walk_more steps place above is) (rest above (up_within ups chains place above within is))

  -- a walk that has not ended had not ended before
  moves : (n place above : ℕ) → up ups (walk n place) ≡ Some above → (k : ℕ) → k ≤ n → up ups (walk k place) ≢ None
  moves n place above goes_on k below ended = none-some above (sym ended ∙ sym (ap (up ups) same) ∙ goes_on)
    where
      split : n ≡ k + (n - k)
      split = omega (arith, below)

      same : walk n place ≡ walk k place
      same = ap (λ (steps : ℕ). walk steps place) split ∙ walk_add k (n - k) place ∙ walk_stuck (n - k) (walk k place) ended

  -- what is in a chain is in a longer one
  any_longer : (test : ℕ → Bool) (steps more place : ℕ) → steps ≤ more → list_any test (chain ups steps place) ≡ true → list_any test (chain ups more place) ≡ true
  any_longer test zero more place below found = let never : false ≡ true = found in cc
  any_longer test (suc steps) zero place below found = absurd (omega (arith, below))
  any_longer test (suc steps) (suc more) place below found =
      by (up ups place) refl (λ above. any_longer test steps more above (omega (arith, below)))
    where
      by : (o : Option ℕ) → up ups place ≡ o → ((above : ℕ) → list_any test (chain ups steps above) ≡ true → list_any test (chain ups more above) ≡ true) →
          list_any test (chain ups (suc more) place) ≡ true
      by None is rest = rw is (rw is at found)
      by (Some above) is rest = rw is (here (test above) refl)
        where
          here : (b : Bool) → test above ≡ b → (test above || list_any test (chain ups more above)) ≡ true
          here true passes = rw passes refl
          here false fails = rw fails (rest above (rw (is, fails) at found))

  -- a place that a walk leads back to owns itself
  owns : (steps place above : ℕ) → suc steps ≤ length ups → up ups place ≡ Some above → walk (suc steps) place ≡ place → owns_itself ups place ≡ true
  owns steps place above below is back =
      any_longer (λ owner. nat_eq owner place) (suc steps) (length ups) place below
      (subst (λ (end : ℕ). list_any (λ owner. nat_eq owner end) (chain ups (suc steps) place) ≡ true) back met)
    where
      met : list_any (λ owner. nat_eq owner (walk (suc steps) place)) (chain ups (suc steps) place) ≡ true
      met = rw (chain_some ups (suc steps) steps place above refl is) (last_in above (chain ups steps above))

  module _ (chains : IsChains ups) (none : first_cycle ups ≡ None) (place : ℕ) (within : place < length ups) where
    -- no walk that goes on comes to one place twice
    no_return : (above : ℕ) → up ups (walk (length ups) place) ≡ Some above → (first more : ℕ) → first + suc more ≤ length ups → walk first place ≢ walk (first + suc more) place
    no_return above goes_on first more below same = by (up ups (walk first place)) refl
      where
        by : (o : Option ℕ) → up ups (walk first place) ≡ o → ⊥
        by None is = moves (length ups) place above goes_on first (omega (arith, below)) is
        by (Some next) is =
            let met = owns more (walk first place) next (omega (arith, below)) is (sym (walk_add first (suc more) place) ∙ sym same) in
            let unmet = find_none (owns_itself ups) 0 (length ups) none (walk first place) (omega arith) (omega (arith, walk_within chains first place within)) in
            let never = sym met ∙ unmet in cc

    -- nothing stands over the top
    pub up-top : up ups (top ups place) ≡ None
    up-top = by (up ups (top ups place)) refl
      where
        by : (o : Option ℕ) → up ups (top ups place) ≡ o → up ups (top ups place) ≡ None
        by None is = is
        by (Some above) is =
            absurd (omega (arith, pigeonhole (suc (length ups)) (length ups) (λ steps. walk steps place) (λ steps _. walk_within chains steps place within) one))
          where
            apart : (i j : ℕ) → i < j → j < suc (length ups) → walk i place ≢ walk j place
            apart i j before below same =
                let split : j ≡ i + suc (j - suc i) = omega (arith, before) in
                no_return above is i (j - suc i) (omega (arith, below, before)) (same ∙ ap (λ (steps : ℕ). walk steps place) split)

            one : (i j : ℕ) → i < suc (length ups) → j < suc (length ups) → walk i place ≡ walk j place → i ≡ j
            one i j i_below j_below same = elim (cases_order i j) [
              | inl equal ↦ equal
              | inr (inl before) ↦ absurd (apart i j before j_below same)
              | inr (inr after) ↦ absurd (apart j i after i_below (sym same))
            ]

    -- what stands over the place has the same top
    pub top-up : (above : ℕ) → up ups place ≡ Some above → top ups above ≡ top ups place
    top-up above is =
        sym (walk_more (length ups) place above is) ∙ ap (λ (steps : ℕ). walk steps place) (suc-eq-add-one (length ups))
        ∙ walk_add (length ups) 1 place ∙ walk_stuck 1 (top ups place) up-top
