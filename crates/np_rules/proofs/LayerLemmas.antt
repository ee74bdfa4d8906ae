-- Layers of rules, policy by policy, and what their walk says. For `PodRules::layer`.
use Rattle.std.proofs.Common.{◌≡◌, ℕ, ◌+◌, List, [], ◌∷◌, ◌++◌, Bool, true, false, ◌||◌, map, Some, refl, sym, ap, ◌∙◌, unwrap_or, if◌then◌else◌}
use Rattle.std.specs.List.{list_any, find, enumerate_from}
use Rattle.std.specs.Str.{bytes_eq}
use Rattle.std.proofs.lemmas.Bool.{and_parts}
use Rattle.std.proofs.lemmas.List.{map-append}
use Rattle.std.proofs.lemmas.Slice.Eq.{bytes_eq-Decides}
use Rattle.np_model.specs.Prelude.{HasAscendingPriorities, action_says}
use Rattle.np_rules.specs.Prelude.{AdminPart, BasePart, Contact, Direction, EstateLists, IsAdminPart, IsBasePart, IsLayer, IsSetOf, Layer, NetPolicy, NetRule, Pairwise, PlacedAdminRule, PlacedBaseRule, PlacedNetRule, PodEnd, admin_places, admin_rule_matches, admin_says, base_places, base_says, is_isolated, matches_of, net_places, net_places_of, net_rule_matches, net_rules_of, net_selects, placed_net_matches, side_allows}
use Rattle.np_labels.specs.Prelude.{meets_selector}
use Rattle.np_tiers.specs.Prelude.{admin_allows, base_allows, lower_allows, walk_allows}
use Rattle.np_rules.specs.model.Sides as sides
use Rattle.np_rules.proofs.AdminTierLemmas.{decider_is_first}
use Rattle.np_rules.proofs.NetTierLemmas as net

-- ---- the namespace of the policies that select a pod

-- a rule in its place
abbrev pub placed_in : NetPolicy → ℕ × NetRule → PlacedNetRule
placed_in policy numbered = record { policy = policy; place = numbered.0; rule = numbered.1 }

-- what a rule matches in a namespace
abbrev pub matches_in : List ℕ → PlacedNetRule → Contact → Bool
matches_in namespace placed = net_rule_matches namespace placed.rule

-- what the rules of one policy match, as rules of its namespace
matches_of_one : (namespace : List ℕ) (policy : NetPolicy) → policy.namespace ≡ namespace → (n : ℕ) (rules : List NetRule) →
    map matches_of (map (placed_in policy) (enumerate_from n rules)) ≡ map (matches_in namespace) (map (placed_in policy) (enumerate_from n rules))
matches_of_one namespace policy same n [] = refl
matches_of_one namespace policy same n (rule ∷ rules) =
    let first : List ℕ → List (Contact → Bool) = λ name. net_rule_matches name rule ∷ map matches_of (map (placed_in policy) (enumerate_from (n + 1) rules)) in
    ap first same ∙ ap (λ matches. net_rule_matches namespace rule ∷ matches) (matches_of_one namespace policy same (n + 1) rules)

-- A policy that selects a pod is of the pod's namespace, so its rules match as rules of that.
pub matches_in_namespace : (policies : List NetPolicy) (direction : Direction) (p : PodEnd) →
    map matches_of (net_places policies direction p) ≡ map (matches_in p.namespace) (net_places policies direction p)
matches_in_namespace [] direction p = refl
matches_in_namespace (policy ∷ policies) direction p =
    map-append matches_of (net.places_by direction p policy) (net_places policies direction p)
    ∙ ap (λ matches. matches ++ map matches_of (net_places policies direction p)) (here (net_selects policy p) refl)
    ∙ ap (λ matches. map (matches_in p.namespace) (net.places_by direction p policy) ++ matches) (matches_in_namespace policies direction p)
    ∙ sym (map-append (matches_in p.namespace) (net.places_by direction p policy) (net_places policies direction p))
  where
    here : (b : Bool) → net_selects policy p ≡ b → map matches_of (if b then net_places_of direction policy else []) ≡ map (matches_in p.namespace) (if b then net_places_of direction policy else [])
    here true selects = matches_of_one p.namespace policy ((bytes_eq-Decides policy.namespace p.namespace).0
        (and_parts (bytes_eq policy.namespace p.namespace) (meets_selector policy.subject p.labels) selects).0) 0 (unwrap_or (net_rules_of direction policy) [])
    here false selects = refl

-- ---- what the walk of a layer says

-- the first admin part that has the spot says what the first matching rule says
pub admin_same : {S Spot : Type 0} (has : S → Spot → Bool) (in_space : Spot → Bool) (contact_at : Spot → Contact) (spot : Spot) → in_space spot ≡ true →
    (below : Bool) (parts : List (AdminPart S)) (places : List PlacedAdminRule) → Pairwise (λ part placed. IsAdminPart has in_space contact_at part placed.rule) parts places →
    admin_allows (find (λ part. has part.set spot) parts) below ≡ admin_says (find (λ placed. admin_rule_matches placed.rule (contact_at spot)) places) below
admin_same has in_space contact_at spot within below [] [] related = refl
admin_same has in_space contact_at spot within below [] (placed ∷ places) related = absurd related
admin_same has in_space contact_at spot within below (part ∷ parts) [] related = absurd related
admin_same has in_space contact_at spot within below (part ∷ parts) (placed ∷ places) related =
    rw (related.0.members spot within) (go (admin_rule_matches placed.rule (contact_at spot)) (admin_same has in_space contact_at spot within below parts places related.1))
  where
    go : (b : Bool) → admin_allows (find (λ part. has part.set spot) parts) below ≡ admin_says (find (λ placed. admin_rule_matches placed.rule (contact_at spot)) places) below →
        admin_allows (if b then Some part else find (λ part. has part.set spot) parts) below ≡ admin_says
        (if b then Some placed else find (λ placed. admin_rule_matches placed.rule (contact_at spot)) places) below
    go true rest = ap (λ a. action_says a below) related.0.action
    go false rest = rest

-- some set has the spot where some rule matches
pub net_same : {S Spot : Type 0} (has : S → Spot → Bool) (in_space : Spot → Bool) (contact_at : Spot → Contact) (spot : Spot) → in_space spot ≡ true → (sets : List S) (places : List PlacedNetRule) →
    Pairwise (λ set placed. IsSetOf has in_space contact_at set (matches_of placed)) sets places → list_any (λ set. has set spot) sets ≡ list_any (placed_net_matches (contact_at spot)) places
net_same has in_space contact_at spot within [] [] related = refl
net_same has in_space contact_at spot within [] (placed ∷ places) related = absurd related
net_same has in_space contact_at spot within (set ∷ sets) [] related = absurd related
net_same has in_space contact_at spot within (set ∷ sets) (placed ∷ places) related =
    ap (λ b. b || list_any (λ s. has s spot) sets) (related.0 spot within) ∙ ap (λ b. placed_net_matches (contact_at spot) placed || b)
    (net_same has in_space contact_at spot within sets places related.1)

-- the first base part that has the spot says what the first matching rule says
pub base_same : {S Spot : Type 0} (has : S → Spot → Bool) (in_space : Spot → Bool) (contact_at : Spot → Contact) (spot : Spot) → in_space spot ≡ true →
    (parts : List (BasePart S)) (places : List PlacedBaseRule) → Pairwise (λ part placed. IsBasePart has in_space contact_at part placed.rule) parts places →
    base_allows (find (λ part. has part.set spot) parts) ≡ base_says (find (λ placed. admin_rule_matches placed.rule (contact_at spot)) places)
base_same has in_space contact_at spot within [] [] related = refl
base_same has in_space contact_at spot within [] (placed ∷ places) related = absurd related
base_same has in_space contact_at spot within (part ∷ parts) [] related = absurd related
base_same has in_space contact_at spot within (part ∷ parts) (placed ∷ places) related =
    rw (related.0.members spot within) (go (admin_rule_matches placed.rule (contact_at spot)) (base_same has in_space contact_at spot within parts places related.1))
  where
    go : (b : Bool) → base_allows (find (λ part. has part.set spot) parts) ≡ base_says (find (λ placed. admin_rule_matches placed.rule (contact_at spot)) places) →
        base_allows (if b then Some part else find (λ part. has part.set spot) parts) ≡ base_says (if b then Some placed else find (λ placed. admin_rule_matches placed.rule (contact_at spot)) places)
    go true rest = related.0.allow
    go false rest = rest

-- A layer whose tiers say at a spot what the rules of the side say of what it stands for, says what the side says.
pub walk_by_tiers : {S Spot : Type 0} (has : S → Spot → Bool) (lists : EstateLists) (direction : Direction) (p : PodEnd) (at : Contact) (made : Layer S) (spot : Spot) →
    HasAscendingPriorities lists.admin_policies → made.isolated ≡ is_isolated lists.net_policies direction p →
    list_any (λ set. has set spot) made.net ≡ list_any (placed_net_matches at) (net_places lists.net_policies direction p) →
    base_allows (find (λ part. has part.set spot) made.base) ≡ base_says (find (λ placed. admin_rule_matches placed.rule at) (base_places lists.baseline direction p)) →
    ((below : Bool) → admin_allows (find (λ part. has part.set spot) made.admin) below ≡ admin_says
    (find (λ placed. admin_rule_matches placed.rule at) (admin_places lists.admin_policies direction p)) below) →
    walk_allows (λ set. has set spot) made ≡ side_allows lists direction p at
unfolding side_allows
walk_by_tiers has lists direction p at made spot ascending isolated net base admin =
    let lower : lower_allows (λ set. has set spot) made ≡ sides.lower_allows lists direction p at = lower_same (is_isolated lists.net_policies direction p) made.isolated isolated net base in
    ap (admin_allows (find (λ part. has part.set spot) made.admin)) lower
    ∙ admin (sides.lower_allows lists direction p at)
    ∙ ap (λ decider. admin_says decider (sides.lower_allows lists direction p at)) (sym (decider_is_first lists.admin_policies direction p at ascending))
  where
    lower_same : (isolated made_isolated : Bool) → made_isolated ≡ isolated → {a b c d : Bool} → a ≡ b → c ≡ d → (if made_isolated then a else c) ≡ (if isolated then b else d)
    lower_same isolated made_isolated same {a} {b} {c} {d} first second = ap (λ i. if i then a else c) same ∙ ap (λ x. if isolated then x else c) first ∙ ap (λ x. if isolated then b else x) second

-- The walk of a layer says at each spot what the side says of what the spot stands for.
pub walk_is_side : {S Spot : Type 0} (has : S → Spot → Bool) (in_space : Spot → Bool) (contact_at : Spot → Contact) (lists : EstateLists) (direction : Direction) (p : PodEnd) (made : Layer S) →
    HasAscendingPriorities lists.admin_policies → IsLayer has in_space contact_at lists direction p made → (spot : Spot) → in_space spot ≡ true →
    walk_allows (λ set. has set spot) made ≡ side_allows lists direction p (contact_at spot)
walk_is_side has in_space contact_at lists direction p made ascending is spot within =
    walk_by_tiers has lists direction p (contact_at spot) made spot ascending is.isolated
    (net_same has in_space contact_at spot within made.net (net_places lists.net_policies direction p) is.net)
    (base_same has in_space contact_at spot within made.base (base_places lists.baseline direction p) is.base)
    (λ below. admin_same has in_space contact_at spot within below made.admin (admin_places lists.admin_policies direction p) is.admin)
