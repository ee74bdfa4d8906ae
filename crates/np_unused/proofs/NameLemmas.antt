-- The rules that a mark names are those that stand in what decides. For SearchLemmas.
use Rattle.std.proofs.Common.{◌≡◌, ℕ, zero, suc, ◌<◌, List, [], ◌∷◌, Bool, true, false, ◌&&◌, ◌==◌, codes, map, Option, Some, None, eq-eqb, refl, sym, ap, ◌∙◌, arith, if◌then◌else◌, length, unwrap_or}
use Rattle.std.specs.Cmp.{both_ways}
use Rattle.std.specs.List.{list_all, slice_get}
use Rattle.std.specs.Option.{option_and_then, option_map, option_map_or}
use Rattle.std.specs.Str.{bytes_eq}
use Rattle.std.proofs.lemmas.Bool.{and_parts, eqb-true, false≢true}
use Rattle.std.proofs.lemmas.Option.{slice_get-map}
use Rattle.std.proofs.lemmas.Slice.Eq.{bytes_eq-Decides}
use Rattle.np_model.specs.Prelude.{IsLawful}
use Rattle.np_unused.specs.Prelude.{AdminPolicy, AreRulesOf, Decider, Direction, EstateLists, LayerRules, Mark, NetPolicy, RuleId, RuleName, Tier, ids_of, is_id, is_met, place_in, policy_name_at, rule_count_at, rule_in}
use Rattle.np_explain.proofs.PlaceLemmas.{at_place}
use Rattle.np_explain.specs.Prelude.{IsMarkOf, admin_rules, base_rules, mark_decider, net_rules, pass_name, same_rule}
use Rattle.np_unused.proofs.PolicyLemmas.{one_admin_policy, one_net_policy, passes_at}
use Rattle.np_unused.specs.declared.rule_ref.Tier.TheVariants as tier
use Rattle.np_rules.specs.Prelude.{NamesAdmin, NamesBase, NamesNet, Pairwise, PlacedAdminRule, PlacedBaseRule, PlacedNetRule, PodSide, admin_rule_name, admin_rules_of, base_rule_name, base_rules_of, is_allow, net_policy_name, net_rule_name, net_rules_of}
use Rattle.np_rules.specs.declared.decider.Decider.TheVariants as decider
use Rattle.np_tiers.specs.declared.mark.Mark.TheVariants as mark
use Rattle.np_base.proofs.Options.{some_is}

-- ---- names at places

-- the names of the rules of a side, place by place
abbrev pub names_of : PodSide → Tier → List RuleName
names_of side tier.Admin = map admin_rule_name (admin_rules side)
names_of side tier.Net = map net_rule_name (net_rules side)
names_of side tier.Base = map base_rule_name (base_rules side)

-- the name at a place, if there is a place
abbrev pub name_met : PodSide → Tier → Option ℕ → Option RuleName
name_met side one met = option_and_then (slice_get (names_of side one)) met

pass_met : (side : PodSide) (pass : Option ℕ) → pass_name side pass ≡ name_met side tier.Admin pass
pass_met side None = refl
pass_met side (Some place) = sym (slice_get-map admin_rule_name (admin_rules side) place)

-- ---- what decides at a mark

admin_of : {X : Type 0} (give : X → Decider) (name : X → Option RuleName) → ((x : X) → rule_in tier.Admin (give x) ≡ name x) → (found : Option X) →
    rule_in tier.Admin (option_map_or give found decider.NoSide) ≡ option_and_then name found
admin_of give name gives None = refl
admin_of give name gives (Some x) = gives x

net_of : {X : Type 0} (give : X → Decider) (name : X → Option RuleName) → ((x : X) → rule_in tier.Net (give x) ≡ name x) → (found : Option X) →
    rule_in tier.Net (option_map_or give found decider.NoSide) ≡ option_and_then name found
net_of give name gives None = refl
net_of give name gives (Some x) = gives x

base_of : {X : Type 0} (give : X → Decider) (name : X → Option RuleName) → ((x : X) → rule_in tier.Base (give x) ≡ name x) → (found : Option X) →
    rule_in tier.Base (option_map_or give found decider.NoSide) ≡ option_and_then name found
base_of give name gives None = refl
base_of give name gives (Some x) = gives x

abbrev no_name : {X : Type 0} → X → Option RuleName
no_name x = None

none_of : {X : Type 0} (found : Option X) → option_and_then no_name found ≡ None
none_of None = refl
none_of (Some x) = refl

named_of : {X : Type 0} (name : X → RuleName) (found : Option X) → option_and_then (λ x. Some (name x)) found ≡ option_map name found
named_of name None = refl
named_of name (Some x) = refl

module _ (side : PodSide) where
  abbrev admin_gives : PlacedAdminRule → Decider
  admin_gives placed = decider.Admin (admin_rule_name placed) (is_allow placed.rule.action)

  abbrev net_gives : Option ℕ → PlacedNetRule → Decider
  net_gives pass placed = decider.Net (pass_name side pass) (net_rule_name placed)

  abbrev base_gives : Option ℕ → PlacedBaseRule → Decider
  base_gives pass placed = decider.Base (pass_name side pass) (base_rule_name placed) (is_allow placed.rule.action)

  -- the rule of a tier is the one at the mark's place
  pub mark_rule : (one : Tier) (m : Mark) → IsMarkOf side m → rule_in one (mark_decider side m) ≡ name_met side one (place_in one m)
  mark_rule tier.Admin (mark.Admin place) there =
      admin_of admin_gives (λ placed. Some (admin_rule_name placed)) (λ placed. refl) (slice_get (admin_rules side) place)
      ∙ named_of admin_rule_name (slice_get (admin_rules side) place) ∙ sym (slice_get-map admin_rule_name (admin_rules side) place)
  mark_rule tier.Admin (mark.Net pass place) there =
      at_place (λ d. rule_in tier.Admin d ≡ name_met side tier.Admin pass) (net_gives pass) decider.NoSide (net_rules side) place there.1 (λ placed is. pass_met side pass)
  mark_rule tier.Admin (mark.Isolated pass) there = pass_met side pass
  mark_rule tier.Admin (mark.Base pass place) there =
      at_place (λ d. rule_in tier.Admin d ≡ name_met side tier.Admin pass) (base_gives pass) decider.NoSide (base_rules side) place there.1 (λ placed is. pass_met side pass)
  mark_rule tier.Admin (mark.Free pass) there = pass_met side pass
  mark_rule tier.Net (mark.Admin place) there = net_of admin_gives (λ placed. None) (λ placed. refl) (slice_get (admin_rules side) place) ∙ none_of (slice_get (admin_rules side) place)
  mark_rule tier.Net (mark.Net pass place) there =
      net_of (net_gives pass) (λ placed. Some (net_rule_name placed)) (λ placed. refl) (slice_get (net_rules side) place)
      ∙ named_of net_rule_name (slice_get (net_rules side) place) ∙ sym (slice_get-map net_rule_name (net_rules side) place)
  mark_rule tier.Net (mark.Isolated pass) there = refl
  mark_rule tier.Net (mark.Base pass place) there = net_of (base_gives pass) (λ placed. None) (λ placed. refl) (slice_get (base_rules side) place) ∙ none_of (slice_get (base_rules side) place)
  mark_rule tier.Net (mark.Free pass) there = refl
  mark_rule tier.Base (mark.Admin place) there = base_of admin_gives (λ placed. None) (λ placed. refl) (slice_get (admin_rules side) place) ∙ none_of (slice_get (admin_rules side) place)
  mark_rule tier.Base (mark.Net pass place) there = base_of (net_gives pass) (λ placed. None) (λ placed. refl) (slice_get (net_rules side) place) ∙ none_of (slice_get (net_rules side) place)
  mark_rule tier.Base (mark.Isolated pass) there = refl
  mark_rule tier.Base (mark.Base pass place) there =
      base_of (base_gives pass) (λ placed. Some (base_rule_name placed)) (λ placed. refl) (slice_get (base_rules side) place)
      ∙ named_of base_rule_name (slice_get (base_rules side) place) ∙ sym (slice_get-map base_rule_name (base_rules side) place)
  mark_rule tier.Base (mark.Free pass) there = refl

-- ---- numbers and names of one rule

module _ (lists : EstateLists) (lawful : IsLawful lists) (direction : Direction) (policy place : ℕ) where
  -- the name of the rule at the place
  abbrev pub name_at : Tier → RuleName
  name_at one = record { policy = policy_name_at lists one policy; place = place }

  -- places and names agree, where the policies do
  both_agree : (numbers names : Bool) (at at' : ℕ) → numbers ≡ names → at ≡ at' → (numbers && place == at) ≡ (names && place == at')
  both_agree numbers names at at' same places = ap (λ (b : Bool). b && place == at) same ∙ ap (λ (n : ℕ). names && place == n) places

  admin_id : (id : RuleId) (placed : PlacedAdminRule) → place < rule_count_at lists tier.Admin direction policy → NamesAdmin lists.admin_policies id placed →
      is_id policy place id ≡ same_rule (name_at tier.Admin) (admin_rule_name placed)
  admin_id id placed valid named = go (slice_get lists.admin_policies policy) refl valid
    where
      go : (found : Option AdminPolicy) → slice_get lists.admin_policies policy ≡ found → place < option_map_or (λ policy. length (admin_rules_of direction policy)) found 0 →
          is_id policy place id ≡ (bytes_eq (option_map_or (λ one. one.name) found []) placed.policy.name && place == placed.place)
      go None is below = absurd (omega arith)
      go (Some one) is below =
          both_agree (policy == id.policy) (bytes_eq one.name placed.policy.name) id.place placed.place
          (both_ways (policy == id.policy) (bytes_eq one.name placed.policy.name)
          (λ same. let policies : one ≡ placed.policy = some_is one placed.policy (sym is ∙ ap (slice_get lists.admin_policies) (eqb-true policy id.policy same) ∙ named.policy) in
          (bytes_eq-Decides one.name placed.policy.name).1 (ap (λ (p : AdminPolicy). p.name) policies))
          (λ same. eq-eqb policy id.policy (one_admin_policy lists lawful policy id.policy one placed.policy is named.policy ((bytes_eq-Decides one.name placed.policy.name).0 same))))
          named.place

  net_id : (id : RuleId) (placed : PlacedNetRule) → place < rule_count_at lists tier.Net direction policy → NamesNet lists.net_policies id placed →
      is_id policy place id ≡ same_rule (name_at tier.Net) (net_rule_name placed)
  net_id id placed valid named = go (slice_get lists.net_policies policy) refl valid
    where
      go : (found : Option NetPolicy) → slice_get lists.net_policies policy ≡ found → place < option_map_or (λ policy. length (unwrap_or (net_rules_of direction policy) [])) found 0 →
          is_id policy place id ≡ (bytes_eq (option_map_or net_policy_name found []) (net_policy_name placed.policy) && place == placed.place)
      go None is below = absurd (omega arith)
      go (Some one) is below =
          both_agree (policy == id.policy) (bytes_eq (net_policy_name one) (net_policy_name placed.policy)) id.place placed.place
          (both_ways (policy == id.policy) (bytes_eq (net_policy_name one) (net_policy_name placed.policy))
          (λ same. let policies : one ≡ placed.policy = some_is one placed.policy (sym is ∙ ap (slice_get lists.net_policies) (eqb-true policy id.policy same) ∙ named.policy) in
          (bytes_eq-Decides (net_policy_name one) (net_policy_name placed.policy)).1 (ap net_policy_name policies))
          (λ same. eq-eqb policy id.policy (one_net_policy lists lawful policy id.policy one placed.policy is named.policy
          ((bytes_eq-Decides (net_policy_name one) (net_policy_name placed.policy)).0 same))))
          named.place

  base_id : (id : RuleId) (placed : PlacedBaseRule) → place < rule_count_at lists tier.Base direction policy → NamesBase id placed →
      is_id policy place id ≡ same_rule (name_at tier.Base) (base_rule_name placed)
  base_id id placed valid named = go (policy == 0) refl valid
    where
      go : (first : Bool) → policy == 0 ≡ first → place < (if first then option_map_or (λ policy. length (base_rules_of direction policy)) lists.baseline 0 else 0) →
          is_id policy place id ≡ (bytes_eq (codes "default") (codes "default") && place == placed.place)
      go true is below =
          both_agree (policy == id.policy) (bytes_eq (codes "default") (codes "default")) id.place placed.place
          (ap (λ (n : ℕ). policy == n) named.policy ∙ is ∙ sym ((bytes_eq-Decides (codes "default") (codes "default")).1 refl))
          named.place
      go false is below = absurd (omega arith)

  -- ---- place by place

  Agree : List RuleId → List RuleName → RuleName → Type 0
  Agree ids names name = Pairwise (λ id other. is_id policy place id ≡ same_rule name other) ids names

  agree_named : {B : Type 0} (R : RuleId → B → Type 0) (name : RuleName) (name_of : B → RuleName) → ((id : RuleId) (y : B) → R id y → is_id policy place id ≡ same_rule name (name_of y)) →
      (ids : List RuleId) (ys : List B) → Pairwise R ids ys → Agree ids (map name_of ys) name
  unfolding Agree
  agree_named R name name_of named [] [] related = tt
  agree_named R name name_of named [] (y ∷ ys) related = absurd related
  agree_named R name name_of named (id ∷ ids) [] related = absurd related
  agree_named R name name_of named (id ∷ ids) (y ∷ ys) related = (named id y related.0, agree_named R name name_of named ids ys related.1)

  agree_at : (name : RuleName) (ids : List RuleId) (names : List RuleName) (k : ℕ) → Agree ids names name →
      option_map_or (is_id policy place) (slice_get ids k) false ≡ option_map_or (same_rule name) (slice_get names k) false
  unfolding Agree
  agree_at name [] [] k agree = refl
  agree_at name [] (other ∷ names) k agree = absurd agree
  agree_at name (id ∷ ids) [] k agree = absurd agree
  agree_at name (id ∷ ids) (other ∷ names) zero agree = agree.0
  agree_at name (id ∷ ids) (other ∷ names) (suc k) agree = agree_at name ids names k agree.1

module _ (side : PodSide) (lawful : IsLawful side.lists) (rules : LayerRules) (are : AreRulesOf side rules) (policy place : ℕ) where
  agree_in : (one : Tier) → place < rule_count_at side.lists one side.direction policy →
      Agree side.lists lawful side.direction policy place (ids_of rules one) (names_of side one) (name_at side.lists lawful side.direction policy place one)
  agree_in tier.Admin valid = agree_named side.lists lawful side.direction policy place (NamesAdmin side.lists.admin_policies)
      (name_at side.lists lawful side.direction policy place tier.Admin) admin_rule_name (λ id placed. admin_id side.lists lawful side.direction policy place id placed valid) rules.admin
      (admin_rules side) are.admin
  agree_in tier.Net valid = agree_named side.lists lawful side.direction policy place (NamesNet side.lists.net_policies) (name_at side.lists lawful side.direction policy place tier.Net) net_rule_name
      (λ id placed. net_id side.lists lawful side.direction policy place id placed valid) rules.net (net_rules side) are.net
  agree_in tier.Base valid = agree_named side.lists lawful side.direction policy place NamesBase (name_at side.lists lawful side.direction policy place tier.Base) base_rule_name
      (λ id placed. base_id side.lists lawful side.direction policy place id placed valid) rules.base (base_rules side) are.base

  -- a rule of the estate is the one at a place where its name is the one there
  pub met_named : (one : Tier) (met : Option ℕ) → place < rule_count_at side.lists one side.direction policy →
      is_met (ids_of rules one) met policy place ≡ option_map_or (same_rule (record { policy = policy_name_at side.lists one policy; place = place })) (name_met side one met) false
  met_named one None valid = refl
  met_named one (Some k) valid = agree_at side.lists lawful side.direction policy place (name_at side.lists lawful side.direction policy place one) (ids_of rules one) (names_of side one) k
      (agree_in one valid)

-- ---- all rules of a list are flagged

pub met_flagged : (flag : ℕ → ℕ → Bool) (ids : List RuleId) (met : Option ℕ) (policy place : ℕ) → list_all (λ id. flag id.policy id.place) ids ≡ true → is_met ids met policy place ≡ true →
    flag policy place ≡ true
met_flagged flag ids None policy place all is = absurd (false≢true is)
met_flagged flag ids (Some k) policy place all is = go (slice_get ids k) refl is
  where
    go : (found : Option RuleId) → slice_get ids k ≡ found → option_map_or (is_id policy place) found false ≡ true → flag policy place ≡ true
    go None at same = absurd (false≢true same)
    go (Some id) at same =
        let parts = and_parts (policy == id.policy) (place == id.place) same in
        ap (λ (n : ℕ). flag n place) (eqb-true policy id.policy parts.0) ∙ ap (flag id.policy) (eqb-true place id.place parts.1) ∙ passes_at (λ other. flag other.policy other.place) ids k id all at
