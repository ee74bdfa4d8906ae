-- What a layer of a side tells of the rules that are used. For `search_addresses` and `search_kind`.
use Rattle.std.proofs.Common.{◌≡◌, ℕ, ◌<◌, List, [], ◌∷◌, Bool, true, false, map, refl, sym, ap, ◌∙◌, inl, inr}
use Rattle.std.specs.Option.{option_map_or}
use Rattle.std.proofs.lemmas.Bool.{and_from, and_parts}
use Rattle.np_model.specs.Prelude.{IsLawful}
use Rattle.np_explain.specs.Prelude.{IsMarkOf, admin_rules, base_rules, mark_decider, net_rules, same_rule}
use Rattle.np_explain.proofs.WalkLemmas.{mark_named}
use Rattle.np_unused.proofs.KnownLemmas.{marks_admin, marks_base, marks_net, marks_test}
use Rattle.np_unused.proofs.NameLemmas.{mark_rule, met_flagged, met_named}
use Rattle.np_unused.proofs.UnknownLemmas.{admin_speaks, base_speaks, first_flagged, net_speaks}
use Rattle.np_unused.specs.Prelude.{AdminPart, AllAreUsed, AreRulesOf, AreUsed, IsSound, Knows, KnowsAll, Layer, LayerRules, Mark, Notes, Searched, Tier, UsedRules, all_known, flag_at, flags_of, ids_of, is_known, is_met, marks, place_in, ref_of, rule_count_at, rule_name, rule_speaks, side_decider, some_unknown_speaks, stands_in}
use Rattle.np_unused.specs.declared.rule_ref.Tier.TheVariants as tier
use Rattle.np_rules.specs.Prelude.{BasePart, Contact, IsAdminPart, IsBasePart, IsLayer, IsSetOf, Pairwise, PodSide, admin_rule_matches, is_allow, is_isolated, matches_of, near_pod}
use Rattle.np_tiers.specs.Prelude.{mark_of}

-- ---- marks and rules

-- a rule of the estate stands in what decides at a mark exactly where the mark names it
stands_marked : (side : PodSide) → IsLawful side.lists → (rules : LayerRules) → AreRulesOf side rules → (m : Mark) → IsMarkOf side m → (one : Tier) (policy place : ℕ) →
    place < rule_count_at side.lists one side.direction policy → stands_in side.lists (ref_of side.direction one policy place) (mark_decider side m) ≡ marks rules one policy place m
unfolding marks
stands_marked side lawful rules are m there one policy place valid =
    ap (λ found. option_map_or (same_rule (rule_name side.lists (ref_of side.direction one policy place))) found false) (mark_rule side one m there)
    ∙ sym (met_named side lawful rules are policy place one (place_in one m) valid)

module _ {S Spot : Type 0} (has : S → Spot → Bool) (in_space : Spot → Bool) (side : PodSide) (looks_at : PodSide → Spot → Contact) (layer : Layer S) (lawful : IsLawful side.lists)
    (is : IsLayer has in_space (looks_at side) side.lists side.direction (near_pod side) layer) (rules : LayerRules) (are : AreRulesOf side rules) where
  stands_at : (spot : Spot) → in_space spot ≡ true → (one : Tier) (policy place : ℕ) → place < rule_count_at side.lists one side.direction policy →
      stands_in side.lists (ref_of side.direction one policy place) (side_decider side (looks_at side spot)) ≡ marks rules one policy place (mark_of (λ set. has set spot) layer)
  stands_at spot inside one policy place valid =
      let named = mark_named has in_space side (looks_at side) layer lawful is spot inside in
      ap (stands_in side.lists (ref_of side.direction one policy place)) (sym named.0) ∙ stands_marked side lawful rules are (mark_of (λ set. has set spot) layer) named.1 one policy place valid

  -- what the marks of a layer name is used, and whatever stands in what decides is found
  pub layer_searched : (old new : UsedRules) → AllAreUsed in_space side looks_at → ((one : Tier) → Notes (marks_test has in_space layer rules one) (flags_of old one) (flags_of new one)) →
      Searched side.lists side.direction (KnowsAll in_space side looks_at) old new
  unfolding IsSound AreUsed Knows is_known
  layer_searched old new listed noted = record {
    grows = λ one. (noted one).grows;
    sound = λ sound one policy place valid known. elim ((noted one).only policy place known) [
      | inl before ↦ sound one policy place valid before
      | inr found ↦ let both = and_parts (in_space found.0) _ found.1 in
          listed found.0 both.0 one policy place valid (stands_at found.0 both.0 one policy place valid ∙ both.1)
    ];
    finds = λ spot inside one policy place valid stands.
        (noted one).finds spot policy place (and_from (in_space spot) _ inside (sym (stands_at spot inside one policy place valid) ∙ stands));
  }

-- ---- what decides anything that a side looks at

Pairwise-made : {A B : Type 0} (R : A → B → Type 0) (make : B → A) → ((y : B) → R (make y) y) → (ys : List B) → Pairwise R (map make ys) ys
Pairwise-made R make made [] = tt
Pairwise-made R make made (y ∷ ys) = (made y, Pairwise-made R make made ys)

module _ (side : PodSide) (lawful : IsLawful side.lists) where
  -- the layer of the side whose sets are tests of contacts
  tests : Layer (Contact → Bool)
  tests = record {
    admin = map (λ placed. record { action = placed.rule.action; set = admin_rule_matches placed.rule }) (admin_rules side);
    isolated = is_isolated side.lists.net_policies side.direction (near_pod side);
    net = map matches_of (net_rules side);
    base = map (λ placed. record { allow = is_allow placed.rule.action; set = admin_rule_matches placed.rule }) (base_rules side);
  }

  has_contact : (Contact → Bool) → Contact → Bool
  has_contact set looks_at = set looks_at

  is_layer : IsLayer has_contact (λ _. true) (λ looks_at. looks_at) side.lists side.direction (near_pod side) tests
  unfolding tests has_contact
  is_layer = record {
    admin = Pairwise-made (λ part placed. IsAdminPart has_contact (λ _. true) (λ looks_at. looks_at) part placed.rule)
        (λ placed. record { action = placed.rule.action; set = admin_rule_matches placed.rule }) (λ placed. record { action = refl; members = λ spot inside. refl }) (admin_rules side);
    isolated = refl;
    net = Pairwise-made (λ set placed. IsSetOf has_contact (λ _. true) (λ looks_at. looks_at) set (matches_of placed)) matches_of (λ placed spot inside. refl) (net_rules side);
    base = Pairwise-made (λ part placed. IsBasePart has_contact (λ _. true) (λ looks_at. looks_at) part placed.rule)
        (λ placed. record { allow = is_allow placed.rule.action; set = admin_rule_matches placed.rule }) (λ placed. record { allow = refl; members = λ spot inside. refl }) (base_rules side);
  }

  -- where all rules of the side are known, so is whatever stands in what decides
  pub knows_side : (rules : LayerRules) → AreRulesOf side rules → (used : UsedRules) → all_known used rules ≡ true → (looks_at : Contact) →
      Knows side.lists side.direction used (side_decider side looks_at)
  unfolding Knows all_known is_known marks
  knows_side rules are used all looks_at one policy place valid stands =
      flagged one (sym (stands_at has_contact (λ _. true) side (λ _ contact. contact) tests lawful is_layer rules are looks_at refl one policy place valid) ∙ stands)
    where
      flagged : (other : Tier) → is_met (ids_of rules other) (place_in other (mark_of (λ set. has_contact set looks_at) tests)) policy place ≡ true → flag_at (flags_of used other) policy place ≡ true
      flagged tier.Admin met = met_flagged (flag_at used.admin) rules.admin _ policy place (and_parts _ _ (and_parts _ _ all).0).0 met
      flagged tier.Net met = met_flagged (flag_at used.net) rules.net _ policy place (and_parts _ _ (and_parts _ _ all).0).1 met
      flagged tier.Base met = met_flagged (flag_at used.base) rules.base _ policy place (and_parts _ _ all).1 met

  -- a rule that stands in what decides with a far end is known, where no rule of its tier that is not known speaks of that one
  pub speaker_known : (rules : LayerRules) → AreRulesOf side rules → (used : UsedRules) (looks_at : Contact) (one : Tier) →
      some_unknown_speaks side.lists side.direction used rules one looks_at.far looks_at.family ≡ false → (policy place : ℕ) → place < rule_count_at side.lists one side.direction policy →
      stands_in side.lists (ref_of side.direction one policy place) (side_decider side looks_at) ≡ true → is_known used one policy place ≡ true
  unfolding tests has_contact is_known
  speaker_known rules are used looks_at one silent policy place valid stands =
      known one silent (sym (stands_at has_contact (λ _. true) side (λ _ contact. contact) tests lawful is_layer rules are looks_at refl one policy place valid) ∙ stands)
    where
      at : (Contact → Bool) → Bool
      at set = set looks_at

      known : (other : Tier) → some_unknown_speaks side.lists side.direction used rules other looks_at.far looks_at.family ≡ false →
          marks rules other policy place (mark_of at tests) ≡ true → is_known used other policy place ≡ true
      known tier.Admin silent marked = first_flagged (flag_at used.admin) (λ id. rule_speaks side.lists side.direction tier.Admin id looks_at.far looks_at.family) (λ (part : AdminPart (Contact → Bool)). at part.set) _ rules.admin
          (admin_rules side) (admin_speaks side.lists side.direction (near_pod side) looks_at rules.admin are.admin) silent policy place
          (sym (marks_admin at tests rules policy place) ∙ marked)
      known tier.Net silent marked = first_flagged (flag_at used.net) (λ id. rule_speaks side.lists side.direction tier.Net id looks_at.far looks_at.family) at matches_of rules.net (net_rules side)
          (net_speaks side.lists side.direction (near_pod side) looks_at rules.net are.net) silent policy place
          (and_parts _ _ (and_parts _ _ (sym (marks_net at tests rules policy place) ∙ marked)).1).1
      known tier.Base silent marked = first_flagged (flag_at used.base) (λ id. rule_speaks side.lists side.direction tier.Base id looks_at.far looks_at.family) (λ (part : BasePart (Contact → Bool)). at part.set) _ rules.base
          (base_rules side) (base_speaks side.lists side.direction (near_pod side) looks_at rules.base are.base) silent policy place
          (and_parts _ _ (and_parts _ _ (sym (marks_base at tests rules policy place) ∙ marked)).1).1
