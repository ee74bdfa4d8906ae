-- Single steps of walks up a chain. For `climb`, `comes_back` and 2 more.
use Rattle.std.proofs.Common.{◌≡◌, ◌≢◌, ◌⊎◌, inl, inr, ℕ, zero, suc, ◌<◌, List, [], ◌∷◌, Bool, true, false, ◌||◌, length, get_or, slice_set, Option, Some, None, refl, sym, subst, ◌∙◌, nat_eq}
use Rattle.std.specs.List.{list_any}
use Rattle.std.proofs.Math.Bool.{or_assoc, or-false, or-true}
use Rattle.std.proofs.lemmas.Bool.Decides.{eqb_tells}
use Rattle.std.proofs.lemmas.List.{get_or-set_same, get_or-set_other}
use Rattle.std.proofs.lemmas.Option.{slice_get-get_or}
use Rattle.np_owners.specs.Prelude.{IsChains, chain, is_marked, up}

-- what is read at a place of the list stands over it
pub up_at : (ups : List (Option ℕ)) (place : ℕ) (d : Option ℕ) → place < length ups → up ups place ≡ get_or ups place d
up_at ups place d within = rw (slice_get-get_or ups place d within) refl

-- and is a place of the list
pub up_within : (ups : List (Option ℕ)) → IsChains ups → (place above : ℕ) → place < length ups → up ups place ≡ Some above → above < length ups
up_within ups chains place above within is = chains.within place None within above (sym (up_at ups place None within) ∙ is)

-- a chain with a step left begins with what stands over the place
pub chain_some : (ups : List (Option ℕ)) (steps rest place above : ℕ) → steps ≡ suc rest → up ups place ≡ Some above → chain ups steps place ≡ above ∷ chain ups rest above
chain_some ups steps rest place above more is = rw (more, is) refl

-- and is empty where nothing does
pub chain_none : (ups : List (Option ℕ)) (steps place : ℕ) → up ups place ≡ None → chain ups steps place ≡ []
chain_none ups zero place is = refl
chain_none ups (suc steps) place is = rw is refl

-- a test passes in a chain with a step left if it does at what stands over the place or in the rest
pub any_step : (test : ℕ → Bool) (ups : List (Option ℕ)) (steps rest place above : ℕ) → steps ≡ suc rest → up ups place ≡ Some above
    → list_any test (chain ups steps place) ≡ (test above || list_any test (chain ups rest above))
any_step test ups steps rest place above more is = rw (chain_some ups steps rest place above more is) refl

-- nothing stands over a place where no place does
pub none_over : (o : Option ℕ) → ((above : ℕ) → o ≡ Some above → ⊥) → o ≡ None
none_over None never = refl
none_over (Some above) never = absurd (never above refl)

-- one mark more
is_marked-set : (marks : List Bool) (place other : ℕ) → place < length marks → is_marked (slice_set marks place true) other ≡ (is_marked marks other || nat_eq place other)
is_marked-set marks place other within = by (eqb_tells place other)
  where
    by : ((nat_eq place other ≡ true) × (place ≡ other)) ⊎ ((nat_eq place other ≡ false) × (place ≢ other)) →
        is_marked (slice_set marks place true) other ≡ (is_marked marks other || nat_eq place other)
    by (inl (is, same)) = subst (λ (k : ℕ). is_marked (slice_set marks place true) k ≡ true) same (get_or-set_same marks place true false within) ∙ sym (rw is (or-true (is_marked marks other)))
    by (inr (is, apart)) = get_or-set_other marks place other true false (λ same. apart (sym same)) ∙ sym (rw is (or-false (is_marked marks other)))

-- the marks and the rest of the chain, with what stands over the place marked
pub mark_step : (marks : List Bool) (ups : List (Option ℕ)) (steps rest place above : ℕ) → steps ≡ suc rest → up ups place ≡ Some above → above < length marks → (other : ℕ)
    → (is_marked (slice_set marks above true) other || list_any (λ owner. nat_eq owner other) (chain ups rest above)) ≡
    (is_marked marks other || list_any (λ owner. nat_eq owner other) (chain ups steps place))
mark_step marks ups steps rest place above more is within other =
    rw (is_marked-set marks above other within, any_step (λ owner. nat_eq owner other) ups steps rest place above more is)
    (or_assoc (is_marked marks other) (nat_eq above other) (list_any (λ owner. nat_eq owner other) (chain ups rest above)))
