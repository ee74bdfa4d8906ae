-- All rules of an estate, and those that are not used. For `unused_rules`.
use Rattle.std.proofs.Common.{◌≡◌, ℕ, zero, suc, ◌<◌, List, [], ◌∷◌, ◌++◌, Bool, true, false, ◌==◌, not, map, filter, length, get_or, slice_get, Option, Some, None, All, refl, sym, ap, ◌∙◌, subst, arith, if◌then◌else◌, unwrap_or}
use Rattle.std.specs.List.{Contains, flat_map, range_with_len}
use Rattle.std.specs.Option.{option_map_or}
use Rattle.std.proofs.lemmas.Bool.{eqb-true}
use Rattle.std.proofs.lemmas.List.Elements.{All-append, All-nil, Contains-append_left, Contains-append_right}
use Rattle.std.proofs.lemmas.List.FromFn.{get_or-map-range_with_len, get_or-range_with_len, length-map-range_with_len, length-range_with_len}
use Rattle.std.proofs.lemmas.Option.{slice_get_within}
use Rattle.np_classes.proofs.Lists.{filter_agree_on}
use Rattle.np_unused.specs.Prelude.{Admin, AdminPolicy, Base, Direction, Egress, EstateLists, Finds, Ingress, IsRuleOf, Net, NetPolicy, Tier, UsedRules, all_rules, is_known_by, is_used, policy_count, rule_count_at, rules_from, rules_of_policy, rules_of_tier, unused_of}
use Rattle.np_rules.specs.Prelude.{admin_rules_of, base_rules_of, net_rules_of}

-- ---- lists

pub numbered_all : {X : Type 0} (P : X → Type 0) (f : ℕ → X) (count : ℕ) → ((n : ℕ) → n < count → P (f n)) → All P (map f (range_with_len 0 count))
numbered_all P f count each k d within =
    let below : k < count = omega (arith, length-map-range_with_len f 0 count) in
    rw (get_or-map-range_with_len f 0 count k k d below (omega arith)) (each k below)

numbered_has : {X : Type 0} (f : ℕ → X) (count n : ℕ) → n < count → Contains (map f (range_with_len 0 count)) (f n)
numbered_has f count n below = (n, omega (arith, length-map-range_with_len f 0 count), get_or-map-range_with_len f 0 count n n (f n) below (omega arith))

range_has : (count n : ℕ) → n < count → Contains (range_with_len 0 count) n
range_has count n below = (n, omega (arith, length-range_with_len 0 count), get_or-range_with_len 0 count n n below ∙ omega arith)

flat_all : {A X : Type 0} (Q : X → Type 0) (f : A → List X) → ((a : A) → All Q (f a)) → (owners : List A) → All Q (flat_map f owners)
flat_all Q f each [] = All-nil Q
flat_all Q f each (a ∷ owners) = All-append Q (f a) (flat_map f owners) (each a) (flat_all Q f each owners)

flat_has_at : {A X : Type 0} (f : A → List X) (owners : List A) (k : ℕ) (a : A) (x : X) → k < length owners → get_or owners k a ≡ a → Contains (f a) x → Contains (flat_map f owners) x
flat_has_at f [] k a x within at has = absurd (omega arith)
flat_has_at {A} {X} f (b ∷ owners) zero a x within at has = Contains-append_left (f b) (flat_map f owners) x (subst (λ (c : A). Contains (f c) x) (sym at) has)
flat_has_at f (b ∷ owners) (suc k) a x within at has = Contains-append_right (f b) (flat_map f owners) x (flat_has_at f owners k a x (omega arith) at has)

flat_has : {A X : Type 0} (f : A → List X) (owners : List A) (a : A) (x : X) → Contains owners a → Contains (f a) x → Contains (flat_map f owners) x
flat_has f owners a x has = flat_has_at f owners has.0 a x has.1 has.2

-- ---- all rules

module _ (lists : EstateLists) where
  policy_rules : (tier : Tier) (policy : ℕ) → All (IsRuleOf lists) (rules_of_policy lists tier policy)
  policy_rules tier policy =
      All-append (IsRuleOf lists) (rules_from tier policy Ingress (rule_count_at lists tier Ingress policy)) (rules_from tier policy Egress (rule_count_at lists tier Egress policy))
      (numbered_all (IsRuleOf lists) (λ place. record { tier = tier; policy = policy; direction = Ingress; place = place }) (rule_count_at lists tier Ingress policy) (λ n below. below))
      (numbered_all (IsRuleOf lists) (λ place. record { tier = tier; policy = policy; direction = Egress; place = place }) (rule_count_at lists tier Egress policy) (λ n below. below))

  tier_rules : (tier : Tier) → All (IsRuleOf lists) (rules_of_tier lists tier)
  tier_rules tier = flat_all (IsRuleOf lists) (rules_of_policy lists tier) (policy_rules tier) (range_with_len 0 (policy_count lists tier))

  pub rules_are_rules : All (IsRuleOf lists) (all_rules lists)
  unfolding all_rules
  rules_are_rules =
      All-append (IsRuleOf lists) (rules_of_tier lists Admin ++ rules_of_tier lists Net) (rules_of_tier lists Base)
      (All-append (IsRuleOf lists) (rules_of_tier lists Admin) (rules_of_tier lists Net) (tier_rules Admin) (tier_rules Net)) (tier_rules Base)

  pub policy_within : (tier : Tier) (policy : ℕ) (direction : Direction) (place : ℕ) → place < rule_count_at lists tier direction policy → policy < policy_count lists tier
  policy_within Admin policy direction place below = go (slice_get lists.admin_policies policy) refl below
    where
      go : (found : Option AdminPolicy) → slice_get lists.admin_policies policy ≡ found → place < option_map_or (λ policy. length (admin_rules_of direction policy)) found 0 → policy < length lists.admin_policies
      go None is none = absurd (omega arith)
      go (Some one) is some = slice_get_within lists.admin_policies policy one is
  policy_within Net policy direction place below = go (slice_get lists.net_policies policy) refl below
    where
      go : (found : Option NetPolicy) → slice_get lists.net_policies policy ≡ found → place < option_map_or (λ policy. length (unwrap_or (net_rules_of direction policy) [])) found 0 → policy < length lists.net_policies
      go None is none = absurd (omega arith)
      go (Some one) is some = slice_get_within lists.net_policies policy one is
  policy_within Base policy direction place below = go (option_map_or (λ policy. length (base_rules_of direction policy)) lists.baseline 0) (policy == 0) refl below
    where
      go : (n : ℕ) (first : Bool) → policy == 0 ≡ first → place < (if first then n else 0) → policy < 1
      go n true is some = omega (arith, eqb-true policy 0 is)
      go n false is none = absurd (omega arith)

  policy_has : (tier : Tier) (policy : ℕ) (direction : Direction) (place : ℕ) → place < rule_count_at lists tier direction policy →
      Contains (rules_of_policy lists tier policy) (record { tier = tier; policy = policy; direction = direction; place = place })
  policy_has tier policy Ingress place below = Contains-append_left (rules_from tier policy Ingress (rule_count_at lists tier Ingress policy))
      (rules_from tier policy Egress (rule_count_at lists tier Egress policy)) _
      (numbered_has (λ n. record { tier = tier; policy = policy; direction = Ingress; place = n }) (rule_count_at lists tier Ingress policy) place below)
  policy_has tier policy Egress place below = Contains-append_right (rules_from tier policy Ingress (rule_count_at lists tier Ingress policy))
      (rules_from tier policy Egress (rule_count_at lists tier Egress policy)) _
      (numbered_has (λ n. record { tier = tier; policy = policy; direction = Egress; place = n }) (rule_count_at lists tier Egress policy) place below)

  tier_has : (tier : Tier) (policy : ℕ) (direction : Direction) (place : ℕ) → place < rule_count_at lists tier direction policy →
      Contains (rules_of_tier lists tier) (record { tier = tier; policy = policy; direction = direction; place = place })
  tier_has tier policy direction place below =
      flat_has (rules_of_policy lists tier) (range_with_len 0 (policy_count lists tier)) policy _ (range_has (policy_count lists tier) policy (policy_within tier policy direction place below))
      (policy_has tier policy direction place below)

  pub rule_is_listed : (tier : Tier) (policy : ℕ) (direction : Direction) (place : ℕ) → place < rule_count_at lists tier direction policy →
      Contains (all_rules lists) (record { tier = tier; policy = policy; direction = direction; place = place })
  unfolding all_rules
  rule_is_listed Admin policy direction place below = Contains-append_left (rules_of_tier lists Admin ++ rules_of_tier lists Net) (rules_of_tier lists Base) _
      (Contains-append_left (rules_of_tier lists Admin) (rules_of_tier lists Net) _ (tier_has Admin policy direction place below))
  rule_is_listed Net policy direction place below = Contains-append_left (rules_of_tier lists Admin ++ rules_of_tier lists Net) (rules_of_tier lists Base) _
      (Contains-append_right (rules_of_tier lists Admin) (rules_of_tier lists Net) _ (tier_has Net policy direction place below))
  rule_is_listed Base policy direction place below = Contains-append_right (rules_of_tier lists Admin ++ rules_of_tier lists Net) (rules_of_tier lists Base) _
      (tier_has Base policy direction place below)

  -- ---- unused rules

  known_is_used : (ingress egress : UsedRules) → Finds lists Ingress ingress → Finds lists Egress egress → (tier : Tier) (policy : ℕ) (direction : Direction) (place : ℕ) →
      place < rule_count_at lists tier direction policy →
      is_known_by ingress egress (record { tier = tier; policy = policy; direction = direction; place = place }) ≡ is_used lists
      (record { tier = tier; policy = policy; direction = direction; place = place })
  unfolding Finds
  known_is_used ingress egress finds_in finds_out tier policy Ingress place below = finds_in tier policy place below
  known_is_used ingress egress finds_in finds_out tier policy Egress place below = finds_out tier policy place below

  pub unknown_is_unused : (ingress egress : UsedRules) → Finds lists Ingress ingress → Finds lists Egress egress →
      filter (λ rule. not (is_known_by ingress egress rule)) (all_rules lists) ≡ unused_of lists
  unfolding unused_of
  unknown_is_unused ingress egress finds_in finds_out =
      filter_agree_on (λ rule. not (is_known_by ingress egress rule)) (λ rule. not (is_used lists rule)) (all_rules lists)
      (λ k d within. let rule = get_or (all_rules lists) k d in ap not (known_is_used ingress egress finds_in finds_out rule.tier rule.policy rule.direction rule.place (rules_are_rules k d within)))
