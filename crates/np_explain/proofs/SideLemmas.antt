-- The names that are kept of a side, place by place. For `NamedSide::admin_allows`, `NamedSide::admin_rule` and 5 more.
use Rattle.std.proofs.Common.{◌≡◌, ℕ, zero, suc, ◌+◌, ◌<◌, List, [], ◌∷◌, ◌++◌, Bool, codes, filter, length, get_or, map, take, All, Option, Some, refl, sym, ap, ◌∙◌, subst, arith}
use Rattle.std.specs.List.{slice_get}
use Rattle.std.specs.Option.{option_map_or}
use Rattle.std.proofs.lemmas.List.{map-append, take_more}
use Rattle.std.proofs.lemmas.List.Elements.{All-cons, All-nil}
use Rattle.std.proofs.lemmas.Option.{slice_get_read, slice_get_within}
use Rattle.np_base.proofs.Lists.{slice_get-some}
use Rattle.np_base.proofs.Options.{some_is}
use Rattle.np_explain.proofs.PlaceLemmas.{at_place}
use Rattle.np_explain.specs.Prelude.{AdminPart, AdminPolicy, Decider, KeepsNames, Layer, LayerRules, NetPolicy, RuleName, admin_rules, base_rules, mark_decider, net_rules, pass_name, policy_name_at}
use Rattle.np_rules.specs.Prelude.{NamesAdmin, NamesBase, NamesNet, Pairwise, PlacedAdminRule, PlacedBaseRule, PlacedNetRule, PodSide, admin_rule_name, base_rule_name, is_allow, isolates, isolating_names, near_pod, net_policy_name, net_rule_name}
use Rattle.np_rules.specs.declared.decider.Decider.TheVariants as decider
use Rattle.np_rules.specs.declared.rule_ids.RuleId.{RuleId}
use Rattle.np_tiers.specs.declared.layer.BasePart.{BasePart}
use Rattle.np_tiers.specs.declared.mark.Mark.TheVariants as mark

-- ---- related lists

pub length-pairwise : {A B : Type 0} (R : A → B → Type 0) (xs : List A) (ys : List B) → Pairwise R xs ys → length xs ≡ length ys
length-pairwise R [] [] related = refl
length-pairwise R [] (y ∷ ys) related = absurd related
length-pairwise R (x ∷ xs) [] related = absurd related
length-pairwise R (x ∷ xs) (y ∷ ys) related = omega (arith, length-pairwise R xs ys related.1)

-- an item that is read is related to the one at its place
related_at : {A B : Type 0} (R : A → B → Type 0) (xs : List A) (ys : List B) (k : ℕ) (d : A) (y : B) → Pairwise R xs ys → slice_get ys k ≡ Some y → R (get_or xs k d) y
related_at R [] [] k d y related at = cc
related_at R [] (b ∷ ys) k d y related at = absurd related
related_at R (a ∷ xs) [] k d y related at = absurd related
related_at R (a ∷ xs) (b ∷ ys) zero d y related at = subst (R a) (some_is b y at) related.0
related_at R (a ∷ xs) (b ∷ ys) (suc k) d y related at = related_at R xs ys k d y related.1 at

-- ---- the policies at places

pub names-at : (policies : List NetPolicy) (places : List ℕ) (named : List NetPolicy) → Pairwise (λ place policy. slice_get policies place ≡ Some policy) places named →
    map (policy_name_at policies) places ≡ map net_policy_name named
names-at policies [] [] related = refl
names-at policies [] (policy ∷ named) related = absurd related
names-at policies (place ∷ places) [] related = absurd related
names-at policies (place ∷ places) (policy ∷ named) related =
    let name : Option NetPolicy → List ℕ = λ o. option_map_or net_policy_name o [] in
    ap (λ (text : List ℕ). text ∷ map (policy_name_at policies) places) (ap name related.0) ∙ ap (λ (texts : List (List ℕ)). net_policy_name policy ∷ texts) (names-at policies places named related.1)

pub all-within : (policies : List NetPolicy) (places : List ℕ) (named : List NetPolicy) → Pairwise (λ place policy. slice_get policies place ≡ Some policy) places named →
    All (λ place. place < length policies) places
all-within policies [] [] related = All-nil (λ place. place < length policies)
all-within policies [] (policy ∷ named) related = absurd related
all-within policies (place ∷ places) [] related = absurd related
all-within policies (place ∷ places) (policy ∷ named) related =
    All-cons (λ place'. place' < length policies) place places (slice_get_within policies place policy related.0) (all-within policies places named related.1)

-- one name more
pub names_more : (policies : List NetPolicy) (places : List ℕ) (i : ℕ) (policy : NetPolicy) (before made : List (List ℕ)) (name : List ℕ) → i < length places → get_or places i 0 < length policies →
    policy ≡ get_or policies (get_or places i 0) policy → name ≡ net_policy_name policy → before ≡ map (policy_name_at policies) (take i places) → made ≡ before ++ name ∷ [] →
    made ≡ map (policy_name_at policies) (take (i + 1) places)
names_more policies places i policy before made name within there is named so_far pushed =
    let read : Option NetPolicy → List ℕ = λ o. option_map_or net_policy_name o [] in
    let longer : List (List ℕ) → List (List ℕ) = λ names. names ++ name ∷ [] in
    let last : List ℕ → List (List ℕ) = λ text. map (policy_name_at policies) (take i places) ++ text ∷ [] in
    let here : name ≡ policy_name_at policies (get_or places i 0) = named ∙ ap read (sym (slice_get_read policies (length policies) (get_or places i 0) policy refl there is)) in
    pushed ∙ ap longer so_far ∙ ap last here
    ∙ sym (ap (map (policy_name_at policies)) (take_more places i 0 within) ∙ map-append (policy_name_at policies) (take i places) (get_or places i 0 ∷ []))

-- ---- what is kept of a side

pub keeps : {S : Type 0} {kept side : PodSide} {layer : Layer S} {rules : LayerRules} → KeepsNames kept layer rules → kept ≡ side → KeepsNames side layer rules
keeps {S} {kept} {side} {layer} {rules} names same = subst (λ (s : PodSide). KeepsNames s layer rules) same names

-- places of rules that are there are places in each list that is kept of them
module _ {S : Type 0} {side : PodSide} {layer : Layer S} {rules : LayerRules} (names : KeepsNames side layer rules) (place : ℕ) where
  pub admin_within : (ids : List RuleId) → ids ≡ rules.admin → place < length (admin_rules side) → place < length ids
  admin_within ids are there = rw are (omega (arith, length-pairwise (NamesAdmin side.lists.admin_policies) rules.admin (admin_rules side) names.admin))

  pub net_within : (ids : List RuleId) → ids ≡ rules.net → place < length (net_rules side) → place < length ids
  net_within ids are there = rw are (omega (arith, length-pairwise (NamesNet side.lists.net_policies) rules.net (net_rules side) names.net))

  pub base_within : (ids : List RuleId) → ids ≡ rules.base → place < length (base_rules side) → place < length ids
  base_within ids are there = rw are (omega (arith, length-pairwise NamesBase rules.base (base_rules side) names.base))

  pub actions_within : (parts : List (AdminPart S)) → parts ≡ layer.admin → place < length (admin_rules side) → place < length parts
  actions_within parts are there = rw are (omega (arith, length-pairwise (λ part placed. part.action ≡ placed.rule.action) layer.admin (admin_rules side) names.says.admin))

  pub allows_within : (parts : List (BasePart S)) → parts ≡ layer.base → place < length (base_rules side) → place < length parts
  allows_within parts are there = rw are (omega (arith, length-pairwise (λ part placed. part.allow ≡ is_allow placed.rule.action) layer.base (base_rules side) names.says.base))

  -- and what stands there is that of the rule
  pub admin_at : (ids : List RuleId) (d : RuleId) (policies : List AdminPolicy) → ids ≡ rules.admin → policies ≡ side.lists.admin_policies → (placed : PlacedAdminRule) →
      slice_get (admin_rules side) place ≡ Some placed → NamesAdmin policies (get_or ids place d) placed
  admin_at ids d policies are same placed is = rw (are, same) (related_at (NamesAdmin side.lists.admin_policies) rules.admin (admin_rules side) place d placed names.admin is)

  pub net_at : (ids : List RuleId) (d : RuleId) (policies : List NetPolicy) → ids ≡ rules.net → policies ≡ side.lists.net_policies → (placed : PlacedNetRule) →
      slice_get (net_rules side) place ≡ Some placed → NamesNet policies (get_or ids place d) placed
  net_at ids d policies are same placed is = rw (are, same) (related_at (NamesNet side.lists.net_policies) rules.net (net_rules side) place d placed names.net is)

  pub base_at : (ids : List RuleId) (d : RuleId) → ids ≡ rules.base → (placed : PlacedBaseRule) → slice_get (base_rules side) place ≡ Some placed → NamesBase (get_or ids place d) placed
  base_at ids d are placed is = rw are (related_at NamesBase rules.base (base_rules side) place d placed names.base is)

  pub action_at : (parts : List (AdminPart S)) (d : AdminPart S) → parts ≡ layer.admin → (placed : PlacedAdminRule) → slice_get (admin_rules side) place ≡ Some placed →
      (get_or parts place d).action ≡ placed.rule.action
  action_at parts d are placed is = rw are (related_at (λ part p. part.action ≡ p.rule.action) layer.admin (admin_rules side) place d placed names.says.admin is)

  pub allow_at : (parts : List (BasePart S)) (d : BasePart S) → parts ≡ layer.base → (placed : PlacedBaseRule) → slice_get (base_rules side) place ≡ Some placed →
      (get_or parts place d).allow ≡ is_allow placed.rule.action
  allow_at parts d are placed is = rw are (related_at (λ part p. part.allow ≡ is_allow p.rule.action) layer.base (base_rules side) place d placed names.says.base is)

-- so the policy of the name that is kept is there too
pub admin_policy_within : {S : Type 0} {side : PodSide} {layer : Layer S} {rules : LayerRules} (names : KeepsNames side layer rules) (place : ℕ) (ids : List RuleId) (d : RuleId)
    (policies : List AdminPolicy) →
    ids ≡ rules.admin → policies ≡ side.lists.admin_policies → place < length (admin_rules side) → (get_or ids place d).policy < length policies
admin_policy_within {S} {side} names place ids d policies are same there =
    let rule = slice_get-some (admin_rules side) place there in
    slice_get_within policies (get_or ids place d).policy rule.0.policy (admin_at names place ids d policies are same rule.0 rule.1).policy

pub net_policy_within : {S : Type 0} {side : PodSide} {layer : Layer S} {rules : LayerRules} (names : KeepsNames side layer rules) (place : ℕ) (ids : List RuleId) (d : RuleId)
    (policies : List NetPolicy) →
    ids ≡ rules.net → policies ≡ side.lists.net_policies → place < length (net_rules side) → (get_or ids place d).policy < length policies
net_policy_within {S} {side} names place ids d policies are same there =
    let rule = slice_get-some (net_rules side) place there in
    slice_get_within policies (get_or ids place d).policy rule.0.policy (net_at names place ids d policies are same rule.0 rule.1).policy

-- the NetworkPolicies that isolate the pod are there, and these are their names
pub isolating_within : (side : PodSide) (isolating places : List ℕ) (policies : List NetPolicy) →
    Pairwise (λ place policy. slice_get side.lists.net_policies place ≡ Some policy) isolating (filter (isolates side.direction (near_pod side)) side.lists.net_policies) → places ≡ isolating →
    policies ≡ side.lists.net_policies → All (λ place. place < length policies) places
isolating_within side isolating places policies named are same =
    rw (are, same) (all-within side.lists.net_policies isolating (filter (isolates side.direction (near_pod side)) side.lists.net_policies) named)

pub isolating_named : (side : PodSide) (isolating places : List ℕ) (policies : List NetPolicy) →
    Pairwise (λ place policy. slice_get side.lists.net_policies place ≡ Some policy) isolating (filter (isolates side.direction (near_pod side)) side.lists.net_policies) → places ≡ isolating →
    policies ≡ side.lists.net_policies → map (policy_name_at policies) places ≡ isolating_names side.lists.net_policies side.direction (near_pod side)
isolating_named side isolating places policies named are same =
    rw (are, same) (names-at side.lists.net_policies isolating (filter (isolates side.direction (near_pod side)) side.lists.net_policies) named)

-- the name of a rule of the baseline
pub base_name : (policy : List ℕ) (id : RuleId) (placed : PlacedBaseRule) → policy ≡ codes "default" → NamesBase id placed → record { policy = policy; place = id.place } ≡ base_rule_name placed
base_name policy id placed is named =
    let of_policy : List ℕ → RuleName = λ text. record { policy = text; place = id.place } in
    let of_place : ℕ → RuleName = λ place. record { policy = codes "default"; place = place } in
    ap of_policy is ∙ ap of_place named.place

-- ---- what is found at the places of a mark

pub admin_found : (side : PodSide) (place : ℕ) (rule : RuleName) (allow : Bool) → place < length (admin_rules side) →
    ((placed : PlacedAdminRule) → slice_get (admin_rules side) place ≡ Some placed → rule ≡ admin_rule_name placed) →
    ((placed : PlacedAdminRule) → slice_get (admin_rules side) place ≡ Some placed → allow ≡ is_allow placed.rule.action) → decider.Admin rule allow ≡ mark_decider side (mark.Admin place)
admin_found side place rule allow within named says =
    at_place (λ (d : Decider). decider.Admin rule allow ≡ d) (λ placed. decider.Admin (admin_rule_name placed) (is_allow placed.rule.action)) decider.NoSide (admin_rules side) place within
    (λ placed is. ap (λ r. decider.Admin r allow) (named placed is) ∙ ap (decider.Admin (admin_rule_name placed)) (says placed is))

pub net_found : (side : PodSide) (met : Option ℕ) (place : ℕ) (pass : Option RuleName) (rule : RuleName) → place < length (net_rules side) → pass ≡ pass_name side met →
    ((placed : PlacedNetRule) → slice_get (net_rules side) place ≡ Some placed → rule ≡ net_rule_name placed) → decider.Net pass rule ≡ mark_decider side (mark.Net met place)
net_found side met place pass rule within passed named =
    at_place (λ (d : Decider). decider.Net pass rule ≡ d) (λ placed. decider.Net (pass_name side met) (net_rule_name placed)) decider.NoSide (net_rules side) place within
    (λ placed is. ap (λ p. decider.Net p rule) passed ∙ ap (decider.Net (pass_name side met)) (named placed is))

pub base_found : (side : PodSide) (met : Option ℕ) (place : ℕ) (pass : Option RuleName) (rule : RuleName) (allow : Bool) → place < length (base_rules side) → pass ≡ pass_name side met →
    ((placed : PlacedBaseRule) → slice_get (base_rules side) place ≡ Some placed → rule ≡ base_rule_name placed) →
    ((placed : PlacedBaseRule) → slice_get (base_rules side) place ≡ Some placed → allow ≡ is_allow placed.rule.action) → decider.Base pass rule allow ≡ mark_decider side (mark.Base met place)
base_found side met place pass rule allow within passed named says =
    at_place (λ (d : Decider). decider.Base pass rule allow ≡ d) (λ placed. decider.Base (pass_name side met) (base_rule_name placed) (is_allow placed.rule.action)) decider.NoSide
    (base_rules side) place within
    (λ placed is. ap (λ p. decider.Base p rule allow) passed ∙ ap (λ r. decider.Base (pass_name side met) r allow) (named placed is) ∙ ap (decider.Base (pass_name side met) (base_rule_name placed))
    (says placed is))
