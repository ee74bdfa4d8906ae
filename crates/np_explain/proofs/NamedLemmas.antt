-- What decides at an end is well named, where the policies are well formed.
-- For `deciders_of_read_policies_are_well_named`, `parts_have_texts_of_their_own` and crates above.
use Rattle.std.proofs.Common.{◌≡◌, ◌≢◌, ℕ, ◌+◌, ◌<◌, ◌≤◌, ◌^◌, List, [], ◌∷◌, ◌++◌, length, map, filter, find, Bool, true, false, not, ◌||◌, ◌==◌, codes, Option, Some, None, All, AllPairs, unwrap_or, refl, sym, ◌∙◌, subst, arith, if◌then◌else◌}
use Rattle.std.specs.List.{enumerate_from, flat_map, list_all}
use Rattle.std.specs.Option.{option_map_or}
use Rattle.std.proofs.lemmas.Bool.{and_from, and_parts, false≢true, lt-ltb}
use Rattle.std.proofs.lemmas.Bool.Decides.{nat_tests}
use Rattle.std.proofs.lemmas.List.{length-append}
use Rattle.std.proofs.lemmas.List.Elements.{All-append, All-cons, All-filter, All-head, All-nil, All-tail, All-weaker}
use Rattle.std.proofs.lemmas.List.Folds.{list_all-append}
use Rattle.np_base.proofs.Options.{some_is}
use Rattle.np_explain.specs.Prelude.{Action, AdminPolicy, Allow, AreRightParts, BasePolicy, Decider, Deny, Direction, Egress, End as PlacedEnd, EstateLists, Family, Ingress, NetPolicy, Part, Pass, PortSpot, RuleName, decider_between, decider_text, end_at, is_rule_name, is_well_named, packet_between, placed_at}
use Rattle.np_conns.specs.Prelude.{has_spot-is_spot}
use Rattle.np_model.specs.Prelude.{has_slash, is_name, is_well, is_well_admin_policy, is_well_base_policy, is_well_net_policy, is_whole_word, is_word, is_word_byte, option_all}
use Rattle.np_explain.proofs.OneListLemmas.{among_all}
use Rattle.np_explain.proofs.PlaceLemmas.{all_flat, all_made}
use Rattle.np_explain.proofs.RuleLemmas.{if_any}
use Rattle.np_explain.proofs.TextLemmas.{decider_text-one}
use Rattle.np_model.specs.declared.network_policy.NetRule.{NetRule}
use Rattle.np_rules.proofs.DeciderLemmas.{least_is_among}
use Rattle.np_rules.proofs.PlacesLemmas.{length-numbered}
use Rattle.np_rules.specs.Prelude.{Contact, ModelEnd, PlacedAdminRule, PlacedBaseRule, PlacedNetRule, PodEnd, action_decides, address, admin_decider, admin_decides, admin_places, admin_precedes, admin_rule_matches, admin_rule_name, admin_rules_of, base_decider, base_decides, base_places, base_rule_name, base_rules_of, contact_of, decider, end_of, end_rule_count, is_isolated, isolates, isolating_names, least_by, lower_decider, net_decider, net_decides, net_places, net_policy_name, net_precedes, net_rule_name, net_rules_of, net_selects, placed_net_matches, pod, rule_count, subject_selects}
use Rattle.np_rules.proofs.PolicyRulesLemmas.{placed_admin}

-- ---- names

name-is : (text : List ℕ) → is_name text ≡ true → is_whole_word text ≡ true
name-is text name = (and_parts (is_whole_word text) (not (has_slash text)) name).0

not-empty : {X : Type 0} (x : X) (xs : List X) → not (length (x ∷ xs) == 0) ≡ true
not-empty x xs = grind (arith, nat_tests)

-- `namespace/name`
net_name-is : (namespace name : List ℕ) → is_name namespace ≡ true → is_name name ≡ true → is_whole_word (namespace ++ codes "/" ++ name) ≡ true
net_name-is [] name first second = absurd (false≢true first)
net_name-is (b ∷ bs) name first second =
    let front = and_parts (not (length (b ∷ bs) == 0)) (is_word (b ∷ bs)) (name-is (b ∷ bs) first) in
    let back = and_parts (not (length name == 0)) (is_word name) (name-is name second) in
    let slashed : is_word ((b ∷ bs) ++ codes "/") ≡ true = list_all-append is_word_byte (b ∷ bs) (codes "/") ∙ and_from _ _ front.1 refl in
    and_from _ _ (not-empty b (bs ++ codes "/" ++ name)) (list_all-append is_word_byte ((b ∷ bs) ++ codes "/") name ∙ and_from _ _ slashed back.1)

net_policy-is : (policy : NetPolicy) → is_well_net_policy policy ≡ true → is_whole_word (net_policy_name policy) ≡ true
net_policy-is policy well =
    let egress = and_parts _ _ well in
    let ingress = and_parts _ _ egress.0 in
    let subject = and_parts _ _ ingress.0 in
    let names = and_parts (is_name policy.namespace) (is_name policy.name) subject.0 in
    net_name-is policy.namespace policy.name names.0 names.1

admin_policy-is : (policy : AdminPolicy) → is_well_admin_policy policy ≡ true → is_whole_word policy.name ≡ true
admin_policy-is policy well =
    let egress = and_parts _ _ well in
    let ingress = and_parts _ _ egress.0 in
    let subject = and_parts _ _ ingress.0 in
    let name = and_parts (is_name policy.name) _ subject.0 in
    name-is policy.name name.0

-- ---- lists

All-of : {X : Type 0} (test : X → Bool) (xs : List X) → list_all test xs ≡ true → All (λ x. test x ≡ true) xs
All-of test [] all = All-nil (λ x. test x ≡ true)
All-of test (x ∷ xs) all =
    let parts = and_parts (test x) (list_all test xs) all in
    All-cons (λ y. test y ≡ true) x xs parts.0 (All-of test xs parts.1)

-- what holds of each item holds of the least, and of the one that is found
of_least : {X : Type 0} (P : X → Type 0) (precedes : X → X → Bool) (xs : List X) → All P xs → (x : X) → least_by precedes xs ≡ Some x → P x
of_least P precedes xs all x is = among_all P xs all x (least_is_among precedes xs x is)

pub of_found : {X : Type 0} (P : X → Type 0) (test : X → Bool) (xs : List X) → All P xs → (x : X) → find test xs ≡ Some x → P x
of_found P test [] all x is = cc
of_found {X} P test (y ∷ ys) all x is = by (test y) (of_found P test ys (All-tail P y ys all) x) is
  where
    by : (b : Bool) → (find test ys ≡ Some x → P x) → (if b then Some y else find test ys) ≡ Some x → P x
    by true later found = subst P (some_is y x found) (All-head P y ys all)
    by false later found = later found

-- ---- places: each is below the number of rules

abbrev AreBelow : {X : Type 0} → (X → ℕ) → List X → Type 0
AreBelow place_of xs = All (λ x. place_of x < length xs) xs

numbered-below : {X Y : Type 0} (place_of : Y → ℕ) (make : ℕ × X → Y) → ((numbered : ℕ × X) → place_of (make numbered) ≡ numbered.0) → (n most : ℕ) (xs : List X)
    → n + length xs ≤ most → All (λ y. place_of y < most) (map make (enumerate_from n xs))
numbered-below place_of make placed n most [] fits = All-nil (λ y. place_of y < most)
numbered-below place_of make placed n most (x ∷ xs) fits =
    All-cons (λ y. place_of y < most) (make (n, x)) (map make (enumerate_from (n + 1) xs)) (omega (arith, placed (n, x)))
    (numbered-below place_of make placed (n + 1) most xs (omega arith))

-- of rules that are chosen or not
chosen-below : {X Y : Type 0} (place_of : Y → ℕ) (make : ℕ × X → Y) → ((numbered : ℕ × X) → place_of (make numbered) ≡ numbered.0) → (b : Bool) (xs : List X)
    → AreBelow place_of (if b then map make (enumerate_from 0 xs) else [])
chosen-below place_of make placed b xs =
    let made = map make (enumerate_from 0 xs) in
    if_any (AreBelow place_of) b made (λ chosen. numbered-below place_of make placed 0 (length made) xs (omega (arith, length-numbered make 0 xs))) (All-nil (λ y. place_of y < 0))

flat-below : {A X : Type 0} (place_of : X → ℕ) (f : A → List X) → ((a : A) → AreBelow place_of (f a)) → (owners : List A) → AreBelow place_of (flat_map f owners)
flat-below place_of f each [] = All-nil (λ x. place_of x < 0)
flat-below {A} {X} place_of f each (a ∷ owners) =
    All-append IsBelow (f a) (flat_map f owners)
    (All-weaker (λ x. place_of x < length (f a)) IsBelow (λ x less. omega (arith, sum)) (f a) (each a))
    (All-weaker (λ x. place_of x < length (flat_map f owners)) IsBelow (λ x less. omega (arith, sum)) (flat_map f owners) (flat-below place_of f each owners))
  where
    IsBelow : X → Type 0
    IsBelow x = place_of x < length (flat_map f (a ∷ owners))

    sum : length (flat_map f (a ∷ owners)) ≡ length (f a) + length (flat_map f owners)
    sum = length-append (f a) (flat_map f owners)

rule-is : (policy : List ℕ) (place most : ℕ) → is_whole_word policy ≡ true → place < most → most < 2 ^ 64 → is_rule_name (record { policy = policy; place = place }) ≡ true
rule-is policy place most name less few = and_from _ _ name (lt-ltb place (2 ^ 64) (omega arith))

-- ---- rules

-- the rules of owners that are well formed, where these are chosen
module _ {A R X : Type 0} (test chosen : A → Bool) (rules : A → List R) (make : A → ℕ × R → X) (name_of : X → List ℕ) (place_of : X → ℕ) where
  abbrev rules_of : A → List X
  rules_of a = if chosen a then map (make a) (enumerate_from 0 (rules a)) else []

  abbrev IsNamed : X → Type 0
  IsNamed x = is_whole_word (name_of x) ≡ true

  names-are : ((a : A) → test a ≡ true → (numbered : ℕ × R) → IsNamed (make a numbered)) → (owners : List A) → list_all test owners ≡ true → All IsNamed (flat_map rules_of owners)
  names-are named owners well =
      all_flat (λ a. test a ≡ true) IsNamed rules_of
      (λ a fit. if_any (All IsNamed) (chosen a) (map (make a) (enumerate_from 0 (rules a))) (λ is. all_made IsNamed (make a) (named a fit) 0 (rules a)) (All-nil IsNamed))
      owners (All-of test owners well)

  rules-are : ((a : A) → test a ≡ true → (numbered : ℕ × R) → IsNamed (make a numbered)) → ((a : A) (numbered : ℕ × R) → place_of (make a numbered) ≡ numbered.0)
      → (owners : List A) → list_all test owners ≡ true → length (flat_map rules_of owners) < 2 ^ 64
      → All (λ x. is_rule_name (record { policy = name_of x; place = place_of x }) ≡ true) (flat_map rules_of owners)
  rules-are named placed owners well few = λ k d within.
      let below = flat-below place_of rules_of (λ a. chosen-below place_of (make a) (placed a) (chosen a) (rules a)) owners in
      rule-is (name_of _) (place_of _) (length (flat_map rules_of owners)) (names-are named owners well k d within) (below k d within) few

abbrev pub net_made : NetPolicy → ℕ × NetRule → PlacedNetRule
net_made policy numbered = record { policy = policy; place = numbered.0; rule = numbered.1 }

module _ (direction : Direction) (p : PodEnd) where
  admin_rules-are : (policies : List AdminPolicy) → list_all is_well_admin_policy policies ≡ true → length (admin_places policies direction p) < 2 ^ 64
      → All (λ placed. is_rule_name (admin_rule_name placed) ≡ true) (admin_places policies direction p)
  admin_rules-are policies well few =
      rules-are is_well_admin_policy (λ policy. subject_selects policy.subject p) (admin_rules_of direction) placed_admin (λ placed. placed.policy.name) (λ placed. placed.place)
      (λ policy fit numbered. admin_policy-is policy fit) (λ policy numbered. refl) policies well few

  net_rules-are : (policies : List NetPolicy) → list_all is_well_net_policy policies ≡ true → length (net_places policies direction p) < 2 ^ 64
      → All (λ placed. is_rule_name (net_rule_name placed) ≡ true) (net_places policies direction p)
  net_rules-are policies well few =
      rules-are is_well_net_policy (λ policy. net_selects policy p) (λ policy. unwrap_or (net_rules_of direction policy) []) net_made (λ placed. net_policy_name placed.policy) (λ placed. placed.place)
      (λ policy fit numbered. net_policy-is policy fit) (λ policy numbered. refl) policies well few

  base_rules-are : (baseline : Option BasePolicy) → length (base_places baseline direction p) < 2 ^ 64 → All (λ placed. is_rule_name (base_rule_name placed) ≡ true) (base_places baseline direction p)
  base_rules-are None few = All-nil (λ placed. is_rule_name (base_rule_name placed) ≡ true)
  base_rules-are (Some policy) few =
      All-weaker (λ placed. placed.place < length (base_places (Some policy) direction p)) (λ placed. is_rule_name (base_rule_name placed) ≡ true)
      (λ placed less. rule-is (codes "default") placed.place (length (base_places (Some policy) direction p)) refl less few) (base_places (Some policy) direction p)
      (chosen-below (λ placed. placed.place) (λ numbered. record { place = numbered.0; rule = numbered.1 }) (λ numbered. refl) (subject_selects policy.subject p) (base_rules_of direction policy))

  -- ---- isolation

  isolating-are : (policies : List NetPolicy) → list_all is_well_net_policy policies ≡ true → list_all is_whole_word (isolating_names policies direction p) ≡ true
  isolating-are [] well = refl
  isolating-are (policy ∷ policies) well =
      let parts = and_parts (is_well_net_policy policy) (list_all is_well_net_policy policies) well in
      by (isolates direction p policy) (net_policy-is policy parts.0) (isolating-are policies parts.1)
    where
      others : List NetPolicy
      others = filter (isolates direction p) policies

      by : (b : Bool) → is_whole_word (net_policy_name policy) ≡ true → list_all is_whole_word (map net_policy_name others) ≡ true
          → list_all is_whole_word (map net_policy_name (if b then policy ∷ others else others)) ≡ true
      by true first later = and_from _ _ first later
      by false first later = later

  isolating-some : (policies : List NetPolicy) → is_isolated policies direction p ≡ true → not (length (isolating_names policies direction p) == 0) ≡ true
  isolating-some [] isolated = absurd (false≢true isolated)
  isolating-some (policy ∷ policies) isolated = by (isolates direction p policy) (isolating-some policies) isolated
    where
      others : List NetPolicy
      others = filter (isolates direction p) policies

      by : (b : Bool) → (is_isolated policies direction p ≡ true → not (length (map net_policy_name others) == 0) ≡ true) → (b || is_isolated policies direction p) ≡ true
          → not (length (map net_policy_name (if b then policy ∷ others else others)) == 0) ≡ true
      by true later some = not-empty (net_policy_name policy) (map net_policy_name others)
      by false later some = later some

-- ---- what decides

net_decides-well : (pass : Option RuleName) (names : List (List ℕ)) (found : Option PlacedNetRule)
    → option_all is_rule_name pass ≡ true → not (length names == 0) ≡ true → list_all is_whole_word names ≡ true
    → ((placed : PlacedNetRule) → found ≡ Some placed → is_rule_name (net_rule_name placed) ≡ true) → is_well_named (net_decides pass names found) ≡ true
net_decides-well pass names None passed some named rules = and_from _ _ (and_from _ _ passed some) named
net_decides-well pass names (Some placed) passed some named rules = and_from _ _ passed (rules placed refl)

base_decides-well : (pass : Option RuleName) (found : Option PlacedBaseRule) → option_all is_rule_name pass ≡ true
    → ((placed : PlacedBaseRule) → found ≡ Some placed → is_rule_name (base_rule_name placed) ≡ true) → is_well_named (base_decides pass found) ≡ true
base_decides-well pass None passed rules = passed
base_decides-well pass (Some placed) passed rules = and_from _ _ passed (rules placed refl)

admin_decides-well : (found : Option PlacedAdminRule) (lower : Option RuleName → Decider)
    → ((placed : PlacedAdminRule) → found ≡ Some placed → is_rule_name (admin_rule_name placed) ≡ true)
    → ((pass : Option RuleName) → option_all is_rule_name pass ≡ true → is_well_named (lower pass) ≡ true) → is_well_named (admin_decides found lower) ≡ true
admin_decides-well None lower rules lowers = lowers None refl
admin_decides-well (Some placed) lower rules lowers = by placed.rule.action
  where
    by : (action : Action) → is_well_named (action_decides action (admin_rule_name placed) lower) ≡ true
    by Allow = rules placed refl
    by Deny = rules placed refl
    by Pass = lowers (Some (admin_rule_name placed)) (rules placed refl)

abbrev AdminIs : PlacedAdminRule → Type 0
AdminIs placed = is_rule_name (admin_rule_name placed) ≡ true

abbrev NetIs : PlacedNetRule → Type 0
NetIs placed = is_rule_name (net_rule_name placed) ≡ true

abbrev BaseIs : PlacedBaseRule → Type 0
BaseIs placed = is_rule_name (base_rule_name placed) ≡ true

-- lists whose policies are well formed, and so many rules for a pod
module _ (lists : EstateLists) (direction : Direction) (p : PodEnd) (contact : Contact) (well : is_well lists ≡ true) (few : rule_count lists direction p < 2 ^ 64) where
  policies-well : (list_all is_well_net_policy lists.net_policies ≡ true) × (list_all is_well_admin_policy lists.admin_policies ≡ true)
  policies-well =
      let base = and_parts _ (option_map_or is_well_base_policy lists.baseline true) (and_parts _ _ (and_parts _ _ well).0).0 in
      let admins = and_parts _ (list_all is_well_admin_policy lists.admin_policies) base.0 in
      ((and_parts _ (list_all is_well_net_policy lists.net_policies) admins.0).1, admins.1)

  of_net : All NetIs (net_places lists.net_policies direction p)
  of_net = net_rules-are direction p lists.net_policies policies-well.0 (omega arith)

  of_admin : All AdminIs (admin_places lists.admin_policies direction p)
  of_admin = admin_rules-are direction p lists.admin_policies policies-well.1 (omega arith)

  lower-well : (pass : Option RuleName) → option_all is_rule_name pass ≡ true → is_well_named (lower_decider lists direction p contact pass) ≡ true
  lower-well pass passed = by (is_isolated lists.net_policies direction p) refl
    where
      names : List (List ℕ)
      names = isolating_names lists.net_policies direction p

      by : (b : Bool) → is_isolated lists.net_policies direction p ≡ b
          → is_well_named (if b then net_decides pass names (net_decider lists.net_policies direction p contact) else base_decides pass (base_decider lists.baseline direction p contact)) ≡ true
      by true isolated =
          net_decides-well pass names (net_decider lists.net_policies direction p contact) passed
          (isolating-some direction p lists.net_policies isolated) (isolating-are direction p lists.net_policies policies-well.0)
          (of_least NetIs net_precedes (filter (placed_net_matches contact) (net_places lists.net_policies direction p))
          (All-filter (placed_net_matches contact) NetIs (net_places lists.net_policies direction p) of_net))
      by false isolated =
          base_decides-well pass (base_decider lists.baseline direction p contact) passed
          (of_found BaseIs (λ placed. admin_rule_matches placed.rule contact) (base_places lists.baseline direction p) (base_rules-are direction p lists.baseline (omega arith)))

  side-well : is_well_named (decider lists direction (pod p) contact) ≡ true
  side-well =
      admin_decides-well (admin_decider lists.admin_policies direction p contact) (lower_decider lists direction p contact)
      (of_least AdminIs admin_precedes (filter (λ placed. admin_rule_matches placed.rule contact) (admin_places lists.admin_policies direction p))
      (All-filter (λ placed. admin_rule_matches placed.rule contact) AdminIs (admin_places lists.admin_policies direction p) of_admin))
      lower-well

pub decider-well : (lists : EstateLists) (direction : Direction) (end : ModelEnd) (contact : Contact) → is_well lists ≡ true → end_rule_count lists direction end < 2 ^ 64
    → is_well_named (decider lists direction end contact) ≡ true
decider-well lists direction (pod p) contact well few = side-well lists direction p contact well few
decider-well lists direction (address a) contact well few = refl

-- ---- parts

end-is : (lists : EstateLists) (direction : Direction) (source destination : PlacedEnd) (family : Family) (spot : PortSpot)
    → end_at direction (packet_between lists source destination family spot) ≡ end_of lists (placed_at direction source destination)
end-is lists Ingress source destination family spot = refl
end-is lists Egress source destination family spot = refl

pub parts-well : (lists : EstateLists) (direction : Direction) (source destination : PlacedEnd) (family : Family) (parts : List Part)
    → is_well lists ≡ true → end_rule_count lists direction (end_of lists (placed_at direction source destination)) < 2 ^ 64
    → AreRightParts (decider_between lists direction source destination family) parts
    → All (λ part. is_well_named part.decider ≡ true) parts
parts-well lists direction source destination family parts well few right = λ k d within.
    let filled = right.filled k d within in
    let spot = filled.0 in
    let packet = packet_between lists source destination family spot in
    let decides = (right.spots k d within spot (has_spot-is_spot _ spot (right.well k d within) filled.1)).0 filled.1 in
    let few_here = subst (λ (end : ModelEnd). end_rule_count lists direction end < 2 ^ 64) (sym (end-is lists direction source destination family spot)) few in
    subst (λ (d' : Decider). is_well_named d' ≡ true) decides (decider-well lists direction (end_at direction packet) (contact_of direction packet) well few_here)

pub texts-apart : (lists : EstateLists) (direction : Direction) (source destination : PlacedEnd) (family : Family) (parts : List Part)
    → is_well lists ≡ true → end_rule_count lists direction (end_of lists (placed_at direction source destination)) < 2 ^ 64
    → AreRightParts (decider_between lists direction source destination family) parts
    → AllPairs (λ a b. decider_text direction a.decider ≢ decider_text direction b.decider) parts
texts-apart lists direction source destination family parts well few right = λ i j d before within same.
    let named = parts-well lists direction source destination family parts well few right in
    right.distinct i j d before within (decider_text-one direction direction _ _ (named i d (omega arith)) (named j d within) same).0
