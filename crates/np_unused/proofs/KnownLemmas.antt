-- What is known after the tiers of a layer were looked at. For `UsedRules::note_layer`.
use Rattle.std.proofs.Common.{◌≡◌, ℕ, ◌+◌, List, [], ◌∷◌, Bool, true, false, ◌&&◌, not, Option, Some, None, refl, sym, ap, ◌∙◌, if◌then◌else◌, find}
use Rattle.std.specs.List.{enumerate_from, position_from, slice_get}
use Rattle.std.specs.Option.{option_and_then, option_map_or}
use Rattle.std.proofs.lemmas.Bool.{false≢true}
use Rattle.np_unused.proofs.FirstLemmas.{first_at-position}
use Rattle.np_unused.proofs.NoteLemmas.{notes_as, notes_none}
use Rattle.np_unused.specs.Prelude.{Action, AdminPart, Allow, Deny, Flags, Layer, LayerRules, Mark, Notes, Pass, RuleId, Tier, UsedRules, base_place, first_at, flags_of, hands_down, is_met, is_pass, marks, names, net_place}
use Rattle.np_unused.specs.declared.rule_ref.Tier.TheVariants as tier
use Rattle.np_tiers.specs.Prelude.{admin_mark, admin_place, base_mark, lower_mark, mark_of, net_mark}
use Rattle.np_tiers.specs.declared.mark.Mark.TheVariants.{Admin}

-- ---- the places of a mark

admin_below : (isolated : Bool) (net base pass : Option ℕ) → admin_place (if isolated then net_mark pass net else base_mark pass base) ≡ pass
admin_below true None base pass = refl
admin_below true (Some place) base pass = refl
admin_below false net None pass = refl
admin_below false net (Some place) pass = refl

net_below : (isolated : Bool) (net base pass : Option ℕ) → net_place (if isolated then net_mark pass net else base_mark pass base) ≡ (if isolated then net else None)
net_below true None base pass = refl
net_below true (Some place) base pass = refl
net_below false net None pass = refl
net_below false net (Some place) pass = refl

base_below : (isolated : Bool) (net base pass : Option ℕ) → base_place (if isolated then net_mark pass net else base_mark pass base) ≡ (if not isolated then base else None)
base_below true None base pass = refl
base_below true (Some place) base pass = refl
base_below false net None pass = refl
base_below false net (Some place) pass = refl

module _ {S : Type 0} (at : S → Bool) (layer : Layer S) where
  abbrev net_at : Option ℕ
  net_at = position_from at 0 layer.net

  abbrev base_at : Option ℕ
  base_at = position_from (λ part. at part.set) 0 layer.base

  -- what decides, by the admin parts of which the first stands at a place
  abbrev mark_from : ℕ → List (AdminPart S) → Mark
  mark_from k parts = admin_mark (find (λ numbered. at numbered.1.set) (enumerate_from k parts)) (lower_mark at layer)

  admin_from : (k : ℕ) (parts : List (AdminPart S)) → admin_place (mark_from k parts) ≡ position_from (λ part. at part.set) k parts
  admin_from k [] = admin_below layer.isolated net_at base_at None
  admin_from k (part ∷ parts) = by (at part.set) part.action (admin_from (k + 1) parts)
    where
      by : (b : Bool) (action : Action) → admin_place (mark_from (k + 1) parts) ≡ position_from (λ (p : AdminPart S). at p.set) (k + 1) parts →
          admin_place (admin_mark (if b then Some (k, record part { action = action }) else find (λ numbered. at numbered.1.set) (enumerate_from (k + 1) parts)) (lower_mark at layer)) ≡
          (if b then Some k else position_from (λ (p : AdminPart S). at p.set) (k + 1) parts)
      by false action later = later
      by true Allow later = refl
      by true Deny later = refl
      by true Pass later = admin_below layer.isolated net_at base_at (Some k)

  -- a place below the admin tier, which is the same whatever was passed on
  lower_from : (place_of : Mark → Option ℕ) (below : Option ℕ) → ((k : ℕ) → place_of (Admin k) ≡ None) → ((pass : Option ℕ) → place_of (lower_mark at layer pass) ≡ below) →
      (k : ℕ) (parts : List (AdminPart S)) → place_of (mark_from k parts) ≡ (if hands_down at parts then below else None)
  lower_from place_of below of_admin of_lower k [] = of_lower None
  lower_from place_of below of_admin of_lower k (part ∷ parts) = by (at part.set) part.action (lower_from place_of below of_admin of_lower (k + 1) parts)
    where
      by : (b : Bool) (action : Action) → place_of (mark_from (k + 1) parts) ≡ (if hands_down at parts then below else None) →
          place_of (admin_mark (if b then Some (k, record part { action = action }) else find (λ numbered. at numbered.1.set) (enumerate_from (k + 1) parts)) (lower_mark at layer)) ≡
          (if option_map_or (λ (p : AdminPart S). is_pass p.action) (if b then Some (record part { action = action }) else find (λ (p : AdminPart S). at p.set) parts) true then below else None)
      by false action later = later
      by true Allow later = of_admin k
      by true Deny later = of_admin k
      by true Pass later = of_lower (Some k)

  -- ---- the rules that a mark names

  named_at : (ids : List RuleId) (hands here : Bool) (found : Option ℕ) (first : Option RuleId) (policy place : ℕ) → option_and_then (slice_get ids) found ≡ first →
      is_met ids (if hands then (if here then found else None) else None) policy place ≡ (hands && (here && names first policy place))
  named_at ids false here found first policy place is = refl
  named_at ids true false found first policy place is = refl
  named_at ids true true found first policy place is = ap (λ (id : Option RuleId). names id policy place) is

  module _ (rules : LayerRules) (policy place : ℕ) where
    pub marks_admin : marks rules tier.Admin policy place (mark_of at layer) ≡ names (first_at (λ part. at part.set) layer.admin rules.admin) policy place
    unfolding marks
    marks_admin =
        ap (λ (found : Option ℕ). is_met rules.admin found policy place) (admin_from 0 layer.admin)
        ∙ ap (λ (id : Option RuleId). names id policy place) (first_at-position (λ part. at part.set) layer.admin rules.admin)

    pub marks_net : marks rules tier.Net policy place (mark_of at layer) ≡ (hands_down at layer.admin && (layer.isolated && names (first_at at layer.net rules.net) policy place))
    unfolding marks
    marks_net =
        ap (λ (found : Option ℕ). is_met rules.net found policy place)
        (lower_from net_place (if layer.isolated then net_at else None) (λ k. refl) (net_below layer.isolated net_at base_at) 0 layer.admin)
        ∙ named_at rules.net (hands_down at layer.admin) layer.isolated net_at (first_at at layer.net rules.net) policy place (first_at-position at layer.net rules.net)

    pub marks_base : marks rules tier.Base policy place (mark_of at layer) ≡
        (hands_down at layer.admin && (not layer.isolated && names (first_at (λ part. at part.set) layer.base rules.base) policy place))
    unfolding marks
    marks_base =
        ap (λ (found : Option ℕ). is_met rules.base found policy place)
        (lower_from base_place (if not layer.isolated then base_at else None) (λ k. refl) (base_below layer.isolated net_at base_at) 0 layer.admin)
        ∙ named_at rules.base (hands_down at layer.admin) (not layer.isolated) base_at (first_at (λ part. at part.set) layer.base rules.base) policy place
        (first_at-position (λ part. at part.set) layer.base rules.base)

-- ---- a layer

module _ {S Spot : Type 0} (has : S → Spot → Bool) (in_space : Spot → Bool) (layer : Layer S) (rules : LayerRules) where
  -- the rules that a tier's marks name
  abbrev pub marks_test : Tier → Spot → ℕ → ℕ → Bool
  marks_test one spot policy place = in_space spot && marks rules one policy place (mark_of (λ set. has set spot) layer)

  -- the first rules of a tier that are handed some spot
  abbrev pub handed_test : {P : Type 0} → (P → S) → List (AdminPart S) → List P → List RuleId → Spot → ℕ → ℕ → Bool
  handed_test set_of above parts ids spot policy place = (in_space spot && hands_down (λ set. has set spot) above) && names (first_at (λ part. has (set_of part) spot) parts ids) policy place

  notes_same : (test noted : Spot → ℕ → ℕ → Bool) (old new : Flags) → ((spot : Spot) (policy place : ℕ) → test spot policy place ≡ noted spot policy place) → Notes noted old new → Notes test old new
  notes_same test noted old new same = notes_as test noted old new (λ spot policy place is. sym (same spot policy place) ∙ is) (λ spot policy place is. same spot policy place ∙ is)

  admin_same : (a b : Bool) → (a && b) ≡ ((a && true) && b)
  admin_same true b = refl
  admin_same false b = refl

  lower_same : (a b c d : Bool) → c ≡ true → (a && (b && (c && d))) ≡ ((a && b) && d)
  lower_same true b c d is = rw is refl
  lower_same false b c d is = refl

  unheard : (a b c d : Bool) → c ≡ false → (a && (b && (c && d))) ≡ true → ⊥
  unheard true true c d none is = false≢true (rw none at is)
  unheard true false c d none is = false≢true is
  unheard false b c d none is = false≢true is

  module _ (old new : UsedRules) (admin : Notes (handed_test (λ part. part.set) [] layer.admin rules.admin) old.admin new.admin) where
    admin_noted : Notes (marks_test tier.Admin) old.admin new.admin
    admin_noted = notes_same (marks_test tier.Admin) _ old.admin new.admin
        (λ spot policy place. ap (λ (b : Bool). in_space spot && b) (marks_admin (λ set. has set spot) layer rules policy place) ∙ admin_same (in_space spot) _) admin

    -- a tier that is not looked at names nothing
    pub isolated_noted : layer.isolated ≡ true → Notes (handed_test (λ set. set) layer.admin layer.net rules.net) old.net new.net → new.base ≡ old.base → (one : Tier) →
        Notes (marks_test one) (flags_of old one) (flags_of new one)
    isolated_noted isolated net kept tier.Admin = admin_noted
    isolated_noted isolated net kept tier.Net = notes_same (marks_test tier.Net) _ old.net new.net
        (λ spot policy place. ap (λ (b : Bool). in_space spot && b) (marks_net (λ set. has set spot) layer rules policy place) ∙ lower_same (in_space spot)
        (hands_down (λ set. has set spot) layer.admin) layer.isolated _ isolated) net
    isolated_noted isolated net kept tier.Base =
        rw kept (notes_none (marks_test tier.Base) old.base (λ spot policy place is. absurd
        (unheard (in_space spot) (hands_down (λ set. has set spot) layer.admin) (not layer.isolated) _ (ap not isolated)
        (sym (ap (λ (b : Bool). in_space spot && b) (marks_base (λ set. has set spot) layer rules policy place)) ∙ is))))

    pub open_noted : layer.isolated ≡ false → Notes (handed_test (λ part. part.set) layer.admin layer.base rules.base) old.base new.base → new.net ≡ old.net → (one : Tier) →
        Notes (marks_test one) (flags_of old one) (flags_of new one)
    open_noted unisolated base kept tier.Admin = admin_noted
    open_noted unisolated base kept tier.Base = notes_same (marks_test tier.Base) _ old.base new.base
        (λ spot policy place. ap (λ (b : Bool). in_space spot && b) (marks_base (λ set. has set spot) layer rules policy place) ∙ lower_same (in_space spot)
        (hands_down (λ set. has set spot) layer.admin) (not layer.isolated) _ (ap not unisolated)) base
    open_noted unisolated base kept tier.Net =
        rw kept (notes_none (marks_test tier.Net) old.net (λ spot policy place is. absurd
        (unheard (in_space spot) (hands_down (λ set. has set spot) layer.admin) layer.isolated _ unisolated
        (sym (ap (λ (b : Bool). in_space spot && b) (marks_net (λ set. has set spot) layer rules policy place)) ∙ is))))
