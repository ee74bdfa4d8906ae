-- What a mark says is what the walk says. For `allowed_is_union_of_carved`, `mark_says_what_the_walk_says` and crates above.
use Rattle.std.proofs.Common.{◌≡◌, ℕ, suc, ◌+◌, Bool, true, false, ◌&&◌, ◌||◌, if◌then◌else◌, Option, Some, None, List, [], ◌∷◌, find, refl, sym, ap, ◌∙◌, inl, inr, arith}
use Rattle.std.proofs.lemmas.Bool.{cases_Bool}
use Rattle.std.specs.List.{list_any, slice_get, position_from}
use Rattle.std.specs.Option.{option_map_or}
use Rattle.std.proofs.Math.Bool.{or-false}
use Rattle.np_tiers.specs.Prelude.{Action, AdminPart, Allow, Deny, Layer, Marked, Pass, action_mark, admin_allows, base_allows, base_mark, lower_allows, lower_mark, mark_allows, mark_of, marks_at, net_mark, walk_allows}
use Rattle.np_model.specs.Prelude.{action_says}
use Rattle.np_tiers.proofs.Choice.{at_choice}
use Rattle.np_tiers.proofs.FirstMatch.{Tier}
use Rattle.np_tiers.proofs.Tiers.{net_tier, base_tier, admin_tier}

-- `rest` is what stands from `place` on in the list
abbrev pub StandsAt : {X : Type 0} → List X → ℕ → List X → Type 0
StandsAt items place rest = (k : ℕ) → slice_get items (place + k) ≡ slice_get rest k

pub first_stands : {X : Type 0} (items : List X) (place : ℕ) (x : X) (xs : List X) → StandsAt items place (x ∷ xs) → slice_get items place ≡ Some x
first_stands items place x xs stands = ap (slice_get items) (omega arith) ∙ stands 0

pub rest_stands : {X : Type 0} (items : List X) (place : ℕ) (x : X) (xs : List X) → StandsAt items place (x ∷ xs) → StandsAt items (place + 1) xs
rest_stands items place x xs stands k = ap (slice_get items) (omega arith) ∙ stands (suc k)

pub whole_stands : {X : Type 0} (items : List X) → StandsAt items 0 items
whole_stands items k = ap (slice_get items) (omega arith)

or_choice : (b x : Bool) → (if b then true else x) ≡ (b || x)
or_choice true x = refl
or_choice false x = refl

module _ {S : Type 0} (at : S → Bool) (layer : Layer S) where
  -- what the marks of a tier say is what its parts say, since it is so at each part
  tier_says : {X : Type 0} (tier : Tier S X) (say : Option X → Bool) (items : List X) → ((place : ℕ) → mark_allows layer (tier.mark_from at place []) ≡ say None) →
      ((place : ℕ) (item : X) → slice_get items place ≡ Some item → mark_allows layer (tier.mark_at at place item) ≡ say (Some item)) → (place : ℕ) (rest : List X) → StandsAt items place rest →
      mark_allows layer (tier.mark_from at place rest) ≡ say (find (λ item. at (tier.set_of item)) rest)
  tier_says tier say items at_end at_item place [] stands = at_end place
  tier_says tier say items at_end at_item place (item ∷ rest) stands =
      let has : Bool = at (tier.set_of item) in
      let later : Bool = say (find (λ item. at (tier.set_of item)) rest) in
      ap (mark_allows layer) (tier.first_decides at place item rest)
      ∙ at_choice (mark_allows layer) has (tier.mark_at at place item) (tier.mark_from at (place + 1) rest)
      ∙ ap (λ (b : Bool). if has then b else mark_allows layer (tier.mark_from at (place + 1) rest)) (at_item place item (first_stands items place item rest stands))
      ∙ ap (λ (b : Bool). if has then say (Some item) else b) (tier_says tier say items at_end at_item (place + 1) rest (rest_stands items place item rest stands))
      ∙ sym (at_choice say has (Some item) (find (λ item. at (tier.set_of item)) rest))

  net_says : (sets : List S) → option_map_or (λ set. true) (find at sets) false ≡ list_any at sets
  net_says [] = refl
  net_says (set ∷ sets) =
      at_choice (λ first. option_map_or (λ set. true) first false) (at set) (Some set) (find at sets)
      ∙ ap (λ (b : Bool). if at set then true else b) (net_says sets) ∙ or_choice (at set) (list_any at sets)

  lower_says : (pass : Option ℕ) → mark_allows layer (lower_mark at layer pass) ≡ lower_allows at layer
  lower_says pass =
      at_choice (mark_allows layer) layer.isolated (net_mark pass (position_from at 0 layer.net)) (base_mark pass (position_from (λ part. at part.set) 0 layer.base))
      ∙ ap (λ (b : Bool). if layer.isolated then b else mark_allows layer (base_mark pass (position_from (λ part. at part.set) 0 layer.base)))
      (tier_says (net_tier pass) (λ first. option_map_or (λ set. true) first false) layer.net (λ place. refl) (λ place set stands. refl) 0 layer.net (whole_stands layer.net) ∙ net_says layer.net)
      ∙ ap (λ (b : Bool). if layer.isolated then list_any at layer.net else b)
      (tier_says (base_tier pass) base_allows layer.base (λ place. refl) (λ place part stands. rw stands refl) 0 layer.base (whole_stands layer.base))

  part_says : (action : Action) (part : AdminPart S) (place : ℕ) → part.action ≡ action → slice_get layer.admin place ≡ Some part →
      mark_allows layer (action_mark action place (lower_mark at layer)) ≡ action_says action (lower_allows at layer)
  part_says Allow part place is stands = rw (stands, is) refl
  part_says Deny part place is stands = rw (stands, is) refl
  part_says Pass part place is stands = lower_says (Some place)

  pub mark_says : mark_allows layer (mark_of at layer) ≡ walk_allows at layer
  mark_says = tier_says (admin_tier layer) (λ first. admin_allows first (lower_allows at layer)) layer.admin (λ place. lower_says None)
      (λ place part stands. part_says part.action part place refl stands) 0 layer.admin (whole_stands layer.admin)

  -- some entry that has the spot allows, where some mark of theirs does
  any_by_marks : (entries : List (Marked S)) → list_any (λ entry. at entry.set && mark_allows layer entry.mark) entries ≡ list_any (mark_allows layer) (marks_at at entries)
  any_by_marks [] = refl
  any_by_marks (entry ∷ entries) =
      elim (cases_Bool (at entry.set)) [
        | inl has ↦ rw (has, any_by_marks entries) refl
        | inr lacks ↦ rw (lacks, any_by_marks entries) refl
      ]

  pub union_says : (entries : List (Marked S)) → marks_at at entries ≡ mark_of at layer ∷ [] → walk_allows at layer ≡ list_any (λ entry. at entry.set && mark_allows layer entry.mark) entries
  union_says entries marks =
      sym (any_by_marks entries ∙ ap (list_any (mark_allows layer)) marks ∙ or-false (mark_allows layer (mark_of at layer)) ∙ mark_says)
