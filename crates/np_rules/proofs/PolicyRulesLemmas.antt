-- The policies that speak of a pod, as they are kept. For `PodRules::count`, `PodRules::names` and 4 more.
use Rattle.std.proofs.Common.{◌≡◌, ℕ, suc, ◌+◌, ◌^◌, ◌<◌, ◌≤◌, List, [], ◌∷◌, ◌++◌, All, Bool, true, false, ◌&&◌, ◌||◌, ◌==◌, cond, length, take, get_or, map, filter, not, Option, Some, None, is_some, unwrap_or, refl, sym, ap, subst, ◌∙◌, arith, if◌then◌else◌}
use Rattle.std.specs.List.{enumerate_from, flat_map, list_any, slice_get}
use Rattle.std.proofs.lemmas.Bool.Decides.{nat_tests}
use Rattle.std.proofs.lemmas.List.{append-nil, map-append}
use Rattle.std.proofs.lemmas.List.Elements.{All-cons, All-nil}
use Rattle.std.proofs.lemmas.Option.{slice_get_within}
use Rattle.np_model.specs.Prelude.{IsFew}
use Rattle.np_rules.specs.Prelude.{AdminPolicy, AdminRule, BasePolicy, Direction, IsPolicyAt, KeepsPolicies, KeepsRules, NamesAdmin, NamesBase, NamesNet, NetPolicy, NetRule, Pairwise, PlacedAdminRule, PlacedBaseRule, PlacedNetRule, PodEnd, PodSide, PolicyRules, RuleId, admin_places, admin_places_of, admin_rules_of, base_places, base_rules_of, ids_from, ids_of, isolates, near_pod, net_places, net_places_of, net_rules_in, net_rules_of, net_selects, subject_selects}
use Rattle.np_rules.proofs.AdminTierLemmas as admin
use Rattle.np_rules.proofs.FilterLemmas.{filter_next, flat_map_filter}
use Rattle.np_rules.proofs.LayerLemmas.{placed_in}
use Rattle.np_rules.proofs.LayerRulesLemmas.{numbered_ids}
use Rattle.np_rules.proofs.NetTierLemmas as net
use Rattle.np_rules.proofs.PairwiseLemmas.{Pairwise-append, Pairwise-ind, Pairwise-push}
use Rattle.np_rules.proofs.PlacesLemmas.{if_both, map-numbered}

-- ---- one policy more

-- what is kept of the items that pass, after one that does
pub kept_more : {X Y : Type 0} (R : X → Y → Type 0) (test : Y → Bool) (ys : List Y) (i : ℕ) (y : Y) (kept made : List X) (x : X) → i < length ys → y ≡ get_or ys i y → test y ≡ true →
    made ≡ kept ++ x ∷ [] → R x y → Pairwise R kept (filter test (take i ys)) → Pairwise R made (filter test (take (i + 1) ys))
kept_more {X} {Y} R test ys i y kept made x within is passes pushed here so_far =
    subst (λ (made' : List X). Pairwise R made' (filter test (take (i + 1) ys))) (sym pushed)
    (subst (λ (those : List Y). Pairwise R (kept ++ x ∷ []) those)
    (sym (filter_next test ys i y within is ∙ ap (λ (b : Bool). filter test (take i ys) ++ cond b (y ∷ []) []) passes))
    (Pairwise-push R kept (filter test (take i ys)) x y so_far here))

-- and after one that does not
pub left_more : {X Y : Type 0} (R : X → Y → Type 0) (test : Y → Bool) (ys : List Y) (i : ℕ) (y : Y) (kept : List X) → i < length ys → y ≡ get_or ys i y → test y ≡ false →
    Pairwise R kept (filter test (take i ys)) → Pairwise R kept (filter test (take (i + 1) ys))
left_more {X} {Y} R test ys i y kept within is fails so_far =
    subst (λ (those : List Y). Pairwise R kept those)
    (sym (filter_next test ys i y within is ∙ ap (λ (b : Bool). filter test (take i ys) ++ cond b (y ∷ []) []) fails ∙ append-nil (filter test (take i ys)))) so_far

-- ---- what is kept of policies

filled : (n : ℕ) → not (suc n == 0) ≡ true
filled n = grind (arith, nat_tests)

-- some item passes where some are left
some_left : {X : Type 0} (test : X → Bool) (xs : List X) → not (length (filter test xs) == 0) ≡ list_any test xs
some_left test [] = refl
some_left test (x ∷ xs) = go (test x) (some_left test xs)
  where
    go : (b : Bool) → not (length (filter test xs) == 0) ≡ list_any test xs → not (length (if b then x ∷ filter test xs else filter test xs) == 0) ≡ (b || list_any test xs)
    go true rest = filled (length (filter test xs))
    go false rest = rest

module _ {P R : Type 0} (policies : List P) (rules_of : P → List R) (kept : List (PolicyRules R)) (chosen : List P) (are : Pairwise (IsPolicyAt policies rules_of) kept chosen) where
  -- the rules that are kept are those of the policies
  rules_kept : {Y : Type 0} (places_of : P → List Y) (rule_of : Y → R) → ((policy : P) → map rule_of (places_of policy) ≡ rules_of policy) →
      flat_map (λ (one : PolicyRules R). one.rules.now) kept ≡ map rule_of (flat_map places_of chosen)
  rules_kept {Y} places_of rule_of same =
      Pairwise-ind (IsPolicyAt policies rules_of) (λ ones ps. flat_map (λ (one : PolicyRules R). one.rules.now) ones ≡ map rule_of (flat_map places_of ps)) refl
      (λ one policy ones ps is rest. ap (λ (front : List R). front ++ flat_map (λ (one' : PolicyRules R). one'.rules.now) ones) (is.rules ∙ sym (same policy))
      ∙ ap (λ (back : List R). map rule_of (places_of policy) ++ back) rest ∙ sym (map-append rule_of (places_of policy) (flat_map places_of ps))) kept chosen are

  -- so are their names
  names_kept : {Y : Type 0} (Names : RuleId → Y → Type 0) (places_of : P → List Y) →
      ((policy : P) (place : ℕ) → slice_get policies place ≡ Some policy → Pairwise Names (ids_from place 0 (length (rules_of policy))) (places_of policy)) →
      Pairwise Names (ids_of kept) (flat_map places_of chosen)
  names_kept Names places_of named =
      Pairwise-ind (IsPolicyAt policies rules_of) (λ ones ps. Pairwise Names (ids_of ones) (flat_map places_of ps)) tt
      (λ one policy ones ps is rest. Pairwise-append Names (ids_from one.place 0 (length one.rules.now)) (places_of policy) (ids_of ones) (flat_map places_of ps)
      (subst (λ (rules : List R). Pairwise Names (ids_from one.place 0 (length rules)) (places_of policy)) (sym is.rules) (named policy one.place is.place)) rest) kept chosen are

  -- the places that are kept are those of the policies
  places_kept : Pairwise (λ place policy. slice_get policies place ≡ Some policy) (map (λ (one : PolicyRules R). one.place) kept) chosen
  places_kept =
      Pairwise-ind (IsPolicyAt policies rules_of) (λ ones ps. Pairwise (λ place policy. slice_get policies place ≡ Some policy) (map (λ (one : PolicyRules R). one.place) ones) ps) tt
      (λ one policy ones ps is rest. (is.place, rest)) kept chosen are

  places_within : (limit : ℕ) → length policies ≤ limit → All (λ one. one.place < limit) kept
  places_within limit few =
      Pairwise-ind (IsPolicyAt policies rules_of) (λ ones ps. All (λ one. one.place < limit) ones) (All-nil (λ one. one.place < limit))
      (λ one policy ones ps is rest. All-cons (λ one'. one'.place < limit) one ones
      (let within = slice_get_within policies one.place policy is.place in let here : one.place < limit = omega arith in here) rest) kept chosen are

  -- something is kept where there is a policy
  some_kept : not (length kept == 0) ≡ not (length chosen == 0)
  some_kept =
      Pairwise-ind (IsPolicyAt policies rules_of) (λ ones ps. not (length ones == 0) ≡ not (length ps == 0)) refl
      (λ one policy ones ps is rest. filled (length ones) ∙ sym (filled (length ps))) kept chosen are

-- ---- the policies whose rules speak of a pod

pub admin_chosen : (policies : List AdminPolicy) (direction : Direction) (p : PodEnd) →
    admin_places policies direction p ≡ flat_map (admin_places_of direction) (filter (λ policy. subject_selects policy.subject p) policies)
admin_chosen policies direction p = flat_map_filter (λ policy. subject_selects policy.subject p) (admin.places_by direction p) (admin_places_of direction) (λ policy. refl) policies

-- a NetworkPolicy that selects the pod, and does not isolate it, has no rules of the direction
pub net_chosen : (policies : List NetPolicy) (direction : Direction) (p : PodEnd) → net_places policies direction p ≡ flat_map (net_places_of direction) (filter (isolates direction p) policies)
net_chosen policies direction p =
    flat_map_filter (isolates direction p) (net.places_by direction p) (net_places_of direction) (λ policy. same policy (net_selects policy p) (net_rules_of direction policy)) policies
  where
    placed : NetPolicy → Option (List NetRule) → List PlacedNetRule
    placed policy rules = map (placed_in policy) (enumerate_from 0 (unwrap_or rules []))

    same : (policy : NetPolicy) (selects : Bool) (rules : Option (List NetRule)) → (if selects then placed policy rules else []) ≡ (if selects && is_some rules then placed policy rules else [])
    same policy true None = refl
    same policy true (Some rules) = refl
    same policy false rules = refl

-- what is found of a policy that isolates the pod, and of one that does not
pub isolating_is : (selects : Bool) (rules : Option (List NetRule)) (found : List NetRule) → Some found ≡ (if selects then rules else None) →
    ((selects && is_some rules) ≡ true) × (found ≡ unwrap_or rules [])
isolating_is true None found is = cc
isolating_is true (Some rules) found is = (refl, cc)
isolating_is false rules found is = cc

pub free_is : (selects : Bool) (rules : Option (List NetRule)) → None ≡ (if selects then rules else None) → (selects && is_some rules) ≡ false
free_is true None is = refl
free_is true (Some rules) is = cc
free_is false rules is = refl

-- ---- the baseline

-- the names of its rules
placed_ids : (baseline : Option BasePolicy) (direction : Direction) (p : PodEnd) →
    Pairwise NamesBase (ids_from 0 0 (length (map (λ placed. placed.rule) (base_places baseline direction p)))) (base_places baseline direction p)
placed_ids None direction p = tt
placed_ids (Some policy) direction p =
    if_both (λ places _. Pairwise NamesBase (ids_from 0 0 (length (map (λ placed. placed.rule) places))) places) (subject_selects policy.subject p) places places
    (subst (λ (rules : List AdminRule). Pairwise NamesBase (ids_from 0 0 (length rules)) places) (sym (map-numbered make (λ placed. placed.rule) (λ numbered. refl) 0 (base_rules_of direction policy)))
    (numbered_ids NamesBase make 0 (λ numbered. record { policy = refl; place = refl }) 0 (base_rules_of direction policy))) tt
  where
    make : ℕ × AdminRule → PlacedBaseRule
    make numbered = record { place = numbered.0; rule = numbered.1 }

    places : List PlacedBaseRule
    places = map make (enumerate_from 0 (base_rules_of direction policy))

-- ---- a side

pub keeps_as : {kept side : PodSide} {admin : List (PolicyRules AdminRule)} {net : List (PolicyRules NetRule)} {base : List AdminRule} → KeepsPolicies kept admin net base → kept ≡ side →
    KeepsPolicies side admin net base
keeps_as {kept} {side} {admin} {net} {base} keeps same = subst (λ (s : PodSide). KeepsPolicies s admin net base) same keeps

-- an admin rule in its place
abbrev pub placed_admin : AdminPolicy → ℕ × AdminRule → PlacedAdminRule
placed_admin policy numbered = record { policy = policy; place = numbered.0; rule = numbered.1 }

module _ {side : PodSide} {admin : List (PolicyRules AdminRule)} {net : List (PolicyRules NetRule)} {base : List AdminRule} (keeps : KeepsPolicies side admin net base) where
  abbrev selecting : List AdminPolicy
  selecting = filter (λ policy. subject_selects policy.subject (near_pod side)) side.lists.admin_policies

  abbrev isolating : List NetPolicy
  isolating = filter (isolates side.direction (near_pod side)) side.lists.net_policies

  -- the rules of the policies that are kept are those of the side
  pub keeps_rules : (admin_rules : List AdminRule) (isolated : Bool) (net_rules : List NetRule) → admin_rules ≡ flat_map (λ (one : PolicyRules AdminRule). one.rules.now) admin →
      isolated ≡ not (length net == 0) → net_rules ≡ flat_map (λ (one : PolicyRules NetRule). one.rules.now) net → KeepsRules side admin_rules isolated net_rules base
  keeps_rules admin_rules isolated net_rules admin_are is net_are = record {
    place = keeps.place;
    admin_rules = admin_are
        ∙ rules_kept side.lists.admin_policies (admin_rules_of side.direction) admin selecting keeps.selecting (admin_places_of side.direction) (λ placed. placed.rule)
        (λ policy. map-numbered (placed_admin policy) (λ placed. placed.rule) (λ numbered. refl) 0 (admin_rules_of side.direction policy))
        ∙ ap (map (λ placed. placed.rule)) (sym (admin_chosen side.lists.admin_policies side.direction (near_pod side)));
    isolation = is
        ∙ some_kept side.lists.net_policies (net_rules_in side.direction) net isolating keeps.isolating
        ∙ some_left (isolates side.direction (near_pod side)) side.lists.net_policies;
    net_rules = net_are
        ∙ rules_kept side.lists.net_policies (net_rules_in side.direction) net isolating keeps.isolating (net_places_of side.direction) (λ placed. placed.rule)
        (λ policy. map-numbered (placed_in policy) (λ placed. placed.rule) (λ numbered. refl) 0 (net_rules_in side.direction policy))
        ∙ ap (map (λ placed. placed.rule)) (sym (net_chosen side.lists.net_policies side.direction (near_pod side)));
    base_rules = keeps.base_rules;
    ascending = keeps.ascending;
  }

  -- the policies that are kept are at places of their lists
  pub admin_within : IsFew side.lists → All (λ one. one.place < 2 ^ 32) admin
  admin_within few = places_within side.lists.admin_policies (admin_rules_of side.direction) admin selecting keeps.selecting (2 ^ 32) (omega arith)

  pub net_within : IsFew side.lists → All (λ one. one.place < 2 ^ 32) net
  net_within few = places_within side.lists.net_policies (net_rules_in side.direction) net isolating keeps.isolating (2 ^ 32) (omega arith)

  -- the names of their rules are those of the rules of the side
  pub admin_named : Pairwise (NamesAdmin side.lists.admin_policies) (ids_of admin) (admin_places side.lists.admin_policies side.direction (near_pod side))
  admin_named =
      subst (λ (places : List PlacedAdminRule). Pairwise (NamesAdmin side.lists.admin_policies) (ids_of admin) places) (sym (admin_chosen side.lists.admin_policies side.direction (near_pod side)))
      (names_kept side.lists.admin_policies (admin_rules_of side.direction) admin selecting keeps.selecting (NamesAdmin side.lists.admin_policies) (admin_places_of side.direction)
      (λ policy place at. numbered_ids (NamesAdmin side.lists.admin_policies) (placed_admin policy) place (λ numbered. record { policy = at; place = refl }) 0 (admin_rules_of side.direction policy)))

  pub net_named : Pairwise (NamesNet side.lists.net_policies) (ids_of net) (net_places side.lists.net_policies side.direction (near_pod side))
  net_named =
      subst (λ (places : List PlacedNetRule). Pairwise (NamesNet side.lists.net_policies) (ids_of net) places) (sym (net_chosen side.lists.net_policies side.direction (near_pod side)))
      (names_kept side.lists.net_policies (net_rules_in side.direction) net isolating keeps.isolating (NamesNet side.lists.net_policies) (net_places_of side.direction)
      (λ policy place at. numbered_ids (NamesNet side.lists.net_policies) (placed_in policy) place (λ numbered. record { policy = at; place = refl }) 0 (net_rules_in side.direction policy)))

  pub isolating_named : Pairwise (λ place policy. slice_get side.lists.net_policies place ≡ Some policy) (map (λ (one : PolicyRules NetRule). one.place) net) isolating
  isolating_named = places_kept side.lists.net_policies (net_rules_in side.direction) net isolating keeps.isolating

  -- the baseline is the one policy of its kind, at the place 0
  pub base_named : Pairwise NamesBase (ids_from 0 0 (length base) ++ []) (base_places side.lists.baseline side.direction (near_pod side))
  base_named =
      subst (λ (ids : List RuleId). Pairwise NamesBase ids (base_places side.lists.baseline side.direction (near_pod side))) (sym (append-nil (ids_from 0 0 (length base))))
      (subst (λ (rules : List AdminRule). Pairwise NamesBase (ids_from 0 0 (length rules)) (base_places side.lists.baseline side.direction (near_pod side))) (sym keeps.base_rules)
      (placed_ids side.lists.baseline side.direction (near_pod side)))
