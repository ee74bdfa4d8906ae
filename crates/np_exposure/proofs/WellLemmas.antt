-- The requirements of rows are as the policies have them that are read. For `requirements_of_read_policies_are_well` and crates above.
use Rattle.std.proofs.Common.{◌≡◌, ℕ, ◌+◌, List, [], ◌∷◌, ◌++◌, length, map, fold, flat_map, Bool, true, false, not, ◌&&◌, ◌==◌, Option, Some, None, is_some, unwrap_or, refl, ap, ◌∙◌, if◌then◌else◌}
use Rattle.std.specs.List.{enumerate_from, list_all, list_any}
use Rattle.std.specs.Option.{option_map_or}
use Rattle.std.proofs.lemmas.Bool.{and_parts, and_from}
use Rattle.std.proofs.lemmas.List.Concat.{flat_map-append}
use Rattle.np_model.specs.Prelude.{has_slash, is_name, is_well, is_well_admin_peer, is_well_admin_policy, is_well_admin_rule, is_well_base_policy, is_well_base_rule, is_well_net_peer, is_well_net_policy, is_well_net_rule, is_word, is_worded, option_all}
use Rattle.np_exposure.specs.Prelude.{AdminPeer, AdminPolicy, AdminRule, AreRows, AreRowsAt, AreRowsOf, BasePolicy, Direction, Egress, ExposureRow, Ingress, IsJoined, IsPossible, Namespace, NetPeer, NetPolicy, NetRule, Pod, Requirement, Selector, Side, SidedRequirement, always, apart, are_well, either, equal, is_same, mentions, namespace_is, negated, never, of_admin_peer, of_admin_rule, of_namespaces, of_net_peer, of_net_rule, of_optional, of_placed, of_selector, requirements, with_first, with_more}
use Rattle.np_labels.specs.WellFormed as labels
use Rattle.np_model.specs.WellPolicies.{is_well_selector}
use Rattle.np_model.specs.declared.admin_policy.AdminPeer.TheVariants as admin
use Rattle.np_model.specs.declared.network_policy.NetPeer.TheVariants as net
use Rattle.np_rules.proofs.LayerLemmas.{placed_in}
use Rattle.np_rules.specs.Prelude.{PodEnd, PodSide, admin_places, admin_places_of, admin_rules_of, base_places, base_rules_of, near_pod, net_places, net_places_of, net_rules_of, net_selects, subject_selects}

-- ---- lists

well-append : (xs ys : List SidedRequirement) → are_well xs ≡ true → are_well ys ≡ true → are_well (xs ++ ys) ≡ true
well-append [] ys front back = back
well-append (x ∷ xs) ys front back =
    let parts = and_parts (is_worded x.requirement && labels.is_well_requirement x.requirement) (are_well xs) front in
    and_from _ (are_well (xs ++ ys)) parts.0 (well-append xs ys parts.1 back)

well-flat : {X : Type 0} (test : X → Bool) (f : X → List SidedRequirement) → ((x : X) → test x ≡ true → are_well (f x) ≡ true) → (xs : List X) → list_all test xs ≡ true →
    are_well (flat_map f xs) ≡ true
well-flat test f each [] all = refl
well-flat test f each (x ∷ xs) all =
    let parts = and_parts (test x) (list_all test xs) all in
    well-append (f x) (flat_map f xs) (each x parts.0) (well-flat test f each xs parts.1)

-- places change nothing
well-numbered : {X Y : Type 0} (test : X → Bool) (f : Y → List SidedRequirement) (make : ℕ × X → Y) → ((n : ℕ) (x : X) → test x ≡ true → are_well (f (make (n, x))) ≡ true) →
    (n : ℕ) (xs : List X) → list_all test xs ≡ true → are_well (flat_map f (map make (enumerate_from n xs))) ≡ true
well-numbered test f make each n [] all = refl
well-numbered test f make each n (x ∷ xs) all =
    let parts = and_parts (test x) (list_all test xs) all in
    well-append (f (make (n, x))) (flat_map f (map make (enumerate_from (n + 1) xs))) (each n x parts.0) (well-numbered test f make each (n + 1) xs parts.1)

-- nor does it that a policy may not select the pod
well-chosen : {X : Type 0} (f : X → List SidedRequirement) (b : Bool) (xs : List X) → are_well (flat_map f xs) ≡ true → are_well (flat_map f (if b then xs else [])) ≡ true
well-chosen f true xs well = well
well-chosen f false xs well = refl

-- policy by policy
well-places : {X Y : Type 0} (test : X → Bool) (f : Y → List SidedRequirement) (places : X → List Y) → ((x : X) → test x ≡ true → are_well (flat_map f (places x)) ≡ true) →
    (xs : List X) → list_all test xs ≡ true → are_well (flat_map f (flat_map places xs)) ≡ true
well-places test f places each [] all = refl
well-places test f places each (x ∷ xs) all =
    let parts = and_parts (test x) (list_all test xs) all in
    ap are_well (flat_map-append f (places x) (flat_map places xs))
    ∙ well-append (flat_map f (places x)) (flat_map f (flat_map places xs)) (each x parts.0) (well-places test f places each xs parts.1)

-- ---- peers

requirements-well : (side : Side) (all : List Requirement) → list_all labels.is_well_requirement all ≡ true → list_all is_worded all ≡ true →
    are_well (map (λ requirement. record { side = side; requirement = requirement }) all) ≡ true
requirements-well side [] fit words = refl
requirements-well side (one ∷ all) fit words =
    let here = and_parts (labels.is_well_requirement one) (list_all labels.is_well_requirement all) fit in
    let there = and_parts (is_worded one) (list_all is_worded all) words in
    and_from _ _ (and_from (is_worded one) (labels.is_well_requirement one) there.0 here.0) (requirements-well side all here.1 there.1)

selector-well : (side : Side) (selector : Selector) → is_well_selector selector ≡ true → are_well (of_selector side selector) ≡ true
selector-well side selector well =
    let parts = and_parts (labels.has_well_requirements selector) (list_all is_worded selector.requirements) well in
    requirements-well side selector.requirements parts.0 parts.1

optional-well : (side : Side) (selector : Option Selector) → option_all is_well_selector selector ≡ true → are_well (of_optional side selector) ≡ true
optional-well side None well = refl
optional-well side (Some selector) well = selector-well side selector well

named-well : (namespace : List ℕ) → is_name namespace ≡ true → are_well (namespace_is namespace ∷ []) ≡ true
named-well namespace name =
    let some = and_parts (not (length namespace == 0) && is_word namespace) (not (has_slash namespace)) name in
    let word = and_parts (not (length namespace == 0)) (is_word namespace) some.0 in
    rw word.1 refl

namespaces-well : (namespace : List ℕ) (namespaces : Option Selector) (has_pods : Bool) → is_name namespace ≡ true → option_all is_well_selector namespaces ≡ true →
    are_well (of_namespaces namespace namespaces has_pods) ≡ true
namespaces-well namespace (Some namespaces) has_pods name well = selector-well Namespace namespaces well
namespaces-well namespace None true name well = named-well namespace name
namespaces-well namespace None false name well = refl

net_peer-well : (namespace : List ℕ) (peer : NetPeer) → is_name namespace ≡ true → is_well_net_peer peer ≡ true → are_well (of_net_peer namespace peer) ≡ true
net_peer-well namespace (net.Pods namespaces pods) name well =
    let parts = and_parts (option_all is_well_selector namespaces) (option_all is_well_selector pods) well in
    well-append (of_namespaces namespace namespaces (is_some pods)) (of_optional Pod pods) (namespaces-well namespace namespaces (is_some pods) name parts.0) (optional-well Pod pods parts.1)
net_peer-well namespace (net.Block cidr excepts) name well = refl

admin_peer-well : (peer : AdminPeer) → is_well_admin_peer peer ≡ true → are_well (of_admin_peer peer) ≡ true
admin_peer-well (admin.Pods namespaces pods) well =
    let parts = and_parts (is_well_selector namespaces) (is_well_selector pods) well in
    well-append (of_selector Namespace namespaces) (of_selector Pod pods) (selector-well Namespace namespaces parts.0) (selector-well Pod pods parts.1)
admin_peer-well (admin.Networks cidrs) well = refl

-- ---- rules

net_rule-well : (namespace : List ℕ) (rule : NetRule) → is_name namespace ≡ true → is_well_net_rule rule ≡ true → are_well (of_net_rule namespace rule) ≡ true
net_rule-well namespace rule name well = well-flat is_well_net_peer (of_net_peer namespace) (λ peer. net_peer-well namespace peer name) rule.peers (and_parts _ _ well).0

admin_rule-well : (rule : AdminRule) → is_well_admin_rule rule ≡ true → are_well (of_admin_rule rule) ≡ true
admin_rule-well rule well = well-flat is_well_admin_peer of_admin_peer admin_peer-well rule.peers (and_parts _ _ (and_parts _ _ well).0).1

base_rule-well : (rule : AdminRule) → is_well_base_rule rule ≡ true → are_well (of_admin_rule rule) ≡ true
base_rule-well rule well = admin_rule-well rule (and_parts _ _ well).1

-- ---- policies

net_rules-well : (rules : Option (List NetRule)) → option_all (λ all. list_all is_well_net_rule all) rules ≡ true → list_all is_well_net_rule (unwrap_or rules []) ≡ true
net_rules-well None well = refl
net_rules-well (Some rules) well = well

net_policy-well : (direction : Direction) (p : PodEnd) (policy : NetPolicy) → is_well_net_policy policy ≡ true →
    are_well (flat_map of_placed (if net_selects policy p then net_places_of direction policy else [])) ≡ true
net_policy-well direction p policy well =
    let egress = and_parts _ (option_all (λ all. list_all is_well_net_rule all) policy.egress) well in
    let ingress = and_parts _ (option_all (λ all. list_all is_well_net_rule all) policy.ingress) egress.0 in
    let names = and_parts (is_name policy.namespace && is_name policy.name) (is_well_selector policy.subject) ingress.0 in
    let name = and_parts (is_name policy.namespace) (is_name policy.name) names.0 in
    well-chosen of_placed (net_selects policy p) (net_places_of direction policy)
    (well-numbered is_well_net_rule of_placed (placed_in policy) (λ n rule. net_rule-well policy.namespace rule name.0) 0 (unwrap_or (net_rules_of direction policy) [])
    (net_rules-well (net_rules_of direction policy) (by direction ingress.1 egress.1)))
  where
    by : (d : Direction) → option_all (λ all. list_all is_well_net_rule all) policy.ingress ≡ true → option_all (λ all. list_all is_well_net_rule all) policy.egress ≡ true →
        option_all (λ all. list_all is_well_net_rule all) (net_rules_of d policy) ≡ true
    by Ingress first second = first
    by Egress first second = second

admin_policy-well : (direction : Direction) (p : PodEnd) (policy : AdminPolicy) → is_well_admin_policy policy ≡ true →
    are_well (flat_map (λ placed. of_admin_rule placed.rule) (if subject_selects policy.subject p then admin_places_of direction policy else [])) ≡ true
admin_policy-well direction p policy well =
    well-chosen (λ placed. of_admin_rule placed.rule) (subject_selects policy.subject p) (admin_places_of direction policy)
    (well-numbered is_well_admin_rule _ _ (λ n rule. admin_rule-well rule) 0 (admin_rules_of direction policy) (by direction))
  where
    by : (d : Direction) → list_all is_well_admin_rule (admin_rules_of d policy) ≡ true
    by Ingress = (and_parts _ _ (and_parts _ _ well).0).1
    by Egress = (and_parts _ _ well).1

baseline-well : (direction : Direction) (p : PodEnd) (baseline : Option BasePolicy) → option_map_or is_well_base_policy baseline true ≡ true →
    are_well (flat_map (λ placed. of_admin_rule placed.rule) (base_places baseline direction p)) ≡ true
baseline-well direction p None well = refl
baseline-well direction p (Some policy) well =
    well-chosen (λ placed. of_admin_rule placed.rule) (subject_selects policy.subject p) _
    (well-numbered is_well_base_rule _ _ (λ n rule. base_rule-well rule) 0 (base_rules_of direction policy) (by direction))
  where
    by : (d : Direction) → list_all is_well_base_rule (base_rules_of d policy) ≡ true
    by Ingress = (and_parts _ _ (and_parts _ _ well).0).1
    by Egress = (and_parts _ _ well).1

mentions-well : (side : PodSide) → is_well side.lists ≡ true → are_well (mentions side) ≡ true
unfolding mentions
mentions-well side well =
    let lists = side.lists in
    let p = near_pod side in
    let base = and_parts _ (option_map_or is_well_base_policy lists.baseline true) (and_parts _ _ (and_parts _ _ well).0).0 in
    let admins = and_parts _ (list_all is_well_admin_policy lists.admin_policies) base.0 in
    let nets = and_parts _ (list_all is_well_net_policy lists.net_policies) admins.0 in
    let first = well-places is_well_admin_policy (λ placed. of_admin_rule placed.rule) _ (admin_policy-well side.direction p) lists.admin_policies admins.1 in
    let second = well-places is_well_net_policy of_placed _ (net_policy-well side.direction p) lists.net_policies nets.1 in
    well-append (flat_map (λ placed. of_admin_rule placed.rule) (admin_places lists.admin_policies side.direction p) ++ flat_map of_placed (net_places lists.net_policies side.direction p))
    (flat_map (λ placed. of_admin_rule placed.rule) (base_places lists.baseline side.direction p))
    (well-append (flat_map (λ placed. of_admin_rule placed.rule) (admin_places lists.admin_policies side.direction p))
    (flat_map of_placed (net_places lists.net_policies side.direction p)) first second)
    (baseline-well side.direction p lists.baseline base.1)

-- ---- each once, and in rows

well-once : (made all : List SidedRequirement) → are_well made ≡ true → are_well all ≡ true → are_well (fold with_more made all) ≡ true
well-once made [] well all = well
well-once made (one ∷ rest) well all =
    let parts = and_parts (is_worded one.requirement && labels.is_well_requirement one.requirement) (are_well rest) all in
    well-once (with_more made one) rest (by (list_any (λ known. is_same known one) made) parts.0) parts.1
  where
    by : (b : Bool) → (is_worded one.requirement && labels.is_well_requirement one.requirement) ≡ true → are_well (if b then made else made ++ one ∷ []) ≡ true
    by true here = well
    by false here = well-append made (one ∷ []) well (and_from _ true here refl)

abbrev rows_well : List ExposureRow → Bool
rows_well rows = list_all (λ row. are_well row.requirements) rows

joined-well : (asked : SidedRequirement) (met unmet : List ExposureRow) → are_well (asked ∷ []) ≡ true → rows_well met ≡ true → rows_well unmet ≡ true →
    rows_well (map (with_first asked) met ++ unmet) ≡ true
joined-well asked [] unmet well first second = second
joined-well asked (row ∷ met) unmet well first second =
    let parts = and_parts (are_well row.requirements) (rows_well met) first in
    and_from _ (rows_well (map (with_first asked) met ++ unmet)) (and_from _ (are_well row.requirements) (and_parts _ true well).0 parts.0) (joined-well asked met unmet well parts.1 second)

rows-well : (side : PodSide) (left assumed : List SidedRequirement) (rows : List ExposureRow) → are_well left ≡ true → AreRows side left assumed rows → rows_well rows ≡ true
unfolding AreRows
rows-well side [] assumed rows well are = ap rows_well are.2
rows-well side (asked ∷ left) assumed rows well are = by are (λ more. rows-well side left (asked ∷ assumed) more parts.1) (λ more. rows-well side left (negated asked ∷ assumed) more parts.1)
  where
    parts : ((is_worded asked.requirement && labels.is_well_requirement asked.requirement) ≡ true) × (are_well left ≡ true)
    parts = and_parts (is_worded asked.requirement && labels.is_well_requirement asked.requirement) (are_well left) well

    joined : (met unmet : List ExposureRow) → IsJoined asked met unmet rows → rows_well met ≡ true → rows_well unmet ≡ true → rows_well rows ≡ true
    joined met unmet (equal same is) first second = ap rows_well is ∙ first
    joined met unmet (apart differ is) first second = ap rows_well is ∙ joined-well asked met unmet (and_from _ true parts.0 refl) first second

    by : AreRowsAt asked (IsPossible (asked ∷ assumed)) (IsPossible (negated asked ∷ assumed)) (AreRows side left (asked ∷ assumed)) (AreRows side left (negated asked ∷ assumed)) rows
        → ((more : List ExposureRow) → AreRows side left (asked ∷ assumed) more → rows_well more ≡ true) →
        ((more : List ExposureRow) → AreRows side left (negated asked ∷ assumed) more → rows_well more ≡ true) → rows_well rows ≡ true
    by (always can cannot met) one other = one rows met
    by (never cannot can unmet) one other = other rows unmet
    by (either can can' met unmet first second are_joined) one other = joined met unmet are_joined (one met first) (other unmet second)

pub rows_of-well : (side : PodSide) (rows : List ExposureRow) → is_well side.lists ≡ true → AreRowsOf side rows → rows_well rows ≡ true
rows_of-well side rows well are = rows-well side (requirements side) [] rows (well-once [] (mentions side) refl (mentions-well side well)) are
