-- Strangers that meet the same mentioned requirements have one exposure. For `alike_strangers_have_one_exposure`.
use Rattle.std.proofs.Common.{◌≡◌, ℕ, List, [], ◌∷◌, ◌++◌, map, flat_map, true, ◌&&◌, Option, Some, None, is_some, unwrap_or, codes, refl, sym, ap, ◌∙◌, if◌then◌else◌}
use Rattle.std.specs.List.{AllByRecursion, list_all, list_any}
use Rattle.std.specs.Str.{bytes_eq}
use Rattle.std.proofs.lemmas.Bool.{false≢true}
use Rattle.std.proofs.Math.Bool.{or-false}
use Rattle.np_base.proofs.Each.{All-weaker, All-parts}
use Rattle.np_exposure.specs.Prelude.{AdminPeer, AdminPort, AdminRule, Direction, Egress, Four, Ingress, Namespace, NetPeer, NetPort, NetRule, OneOf, Pod, PortSpot, Requirement, Selector, Side, SidedRequirement, Stranger, exposes, is_hypothetical, labels_at, meets, mentions, namespace_is, of_admin_peer, of_admin_rule, of_net_peer, of_net_rule, of_placed, of_selector}
use Rattle.np_labels.specs.Prelude.{meets_requirement, meets_selector, op_allows, value_of}
use Rattle.np_model.specs.declared.admin_policy.AdminPeer.TheVariants as admin
use Rattle.np_model.specs.declared.admin_policy.AdminPort.TheVariants as admin_port
use Rattle.np_model.specs.declared.network_policy.NetPeer.TheVariants as net
use Rattle.np_model.specs.declared.network_policy.NetPort.TheVariants as net_port
use Rattle.np_rules.proofs.EachItem.{All-each, All-flat, filter-same, find-same, list_any-same, none_or_any-same}
use Rattle.np_rules.specs.Prelude.{Contact, PodEnd, PodSide, admin_decider, admin_entry_matches, admin_peer_matches, admin_places, admin_precedes, admin_rule_matches, admin_says, base_decider, base_places, base_says, destination_of, is_isolated, least_by, lower_allows, near_pod, net_entry_matches, net_peer_matches, net_places, net_rule_matches, none_or_any, permits, placed_net_matches, pod, pods_match, side_allows, stranger_end, with_stranger}

-- names of which both or neither is this one
names-same : (namespace : List ℕ) (a b : Option (List ℕ)) → is_some a ≡ true → is_some b ≡ true → op_allows OneOf (namespace ∷ []) a ≡ op_allows OneOf (namespace ∷ []) b →
    bytes_eq namespace (unwrap_or a []) ≡ bytes_eq namespace (unwrap_or b [])
names-same namespace None b some some' same = absurd (false≢true some)
names-same namespace (Some v) None some some' same = absurd (false≢true some')
names-same namespace (Some v) (Some u) some some' same = sym (or-false (bytes_eq namespace v)) ∙ same ∙ or-false (bytes_eq namespace u)

-- both strangers meet a requirement, or neither does
abbrev pub Agree : Stranger → Stranger → SidedRequirement → Type 0
Agree s t asked = meets asked s ≡ meets asked t

module _ (s t : Stranger) (first : is_hypothetical s ≡ true) (second : is_hypothetical t ≡ true) where
  -- ---- selectors

  requirements-same : (side : Side) (requirements : List Requirement) → AllByRecursion (Agree s t) (map (λ requirement. record { side = side; requirement = requirement }) requirements) →
      list_all (λ requirement. meets_requirement requirement (labels_at side s)) requirements ≡ list_all (λ requirement. meets_requirement requirement (labels_at side t)) requirements
  requirements-same side [] agree = refl
  requirements-same side (requirement ∷ requirements) agree =
      ap (λ b. b && list_all (λ one. meets_requirement one (labels_at side s)) requirements) agree.0
      ∙ ap (λ b. meets_requirement requirement (labels_at side t) && b) (requirements-same side requirements agree.1)

  selector-same : (side : Side) (selector : Selector) → AllByRecursion (Agree s t) (of_selector side selector) → meets_selector selector (labels_at side s) ≡ meets_selector selector (labels_at side t)
  selector-same side selector agree = requirements-same side selector.requirements agree

  named-same : (namespace : List ℕ) → Agree s t (namespace_is namespace) → bytes_eq namespace (stranger_end s).namespace ≡ bytes_eq namespace (stranger_end t).namespace
  named-same namespace agree = names-same namespace (value_of s.namespace (codes "kubernetes.io/metadata.name")) (value_of t.namespace (codes "kubernetes.io/metadata.name")) first second agree

  -- ---- peers

  pods-same : (namespace : List ℕ) (namespaces pods : Option Selector) → AllByRecursion (Agree s t) (of_net_peer namespace (net.Pods namespaces pods)) →
      pods_match namespace namespaces pods (stranger_end s) ≡ pods_match namespace namespaces pods (stranger_end t)
  pods-same namespace None None agree = refl
  pods-same namespace None (Some pods) agree =
      ap (λ b. b && meets_selector pods s.labels) (named-same namespace agree.0) ∙ ap (λ b. bytes_eq namespace (stranger_end t).namespace && b) (selector-same Pod pods agree.1)
  pods-same namespace (Some namespaces) None agree = selector-same Namespace namespaces (All-parts (Agree s t) (of_selector Namespace namespaces) [] agree).0
  pods-same namespace (Some namespaces) (Some pods) agree =
      let parts = All-parts (Agree s t) (of_selector Namespace namespaces) (of_selector Pod pods) agree in
      ap (λ b. b && meets_selector pods s.labels) (selector-same Namespace namespaces parts.0) ∙ ap (λ b. meets_selector namespaces t.namespace && b) (selector-same Pod pods parts.1)

  net_peer-same : (namespace : List ℕ) (peer : NetPeer) → AllByRecursion (Agree s t) (of_net_peer namespace peer) →
      net_peer_matches namespace peer (pod (stranger_end s)) ≡ net_peer_matches namespace peer (pod (stranger_end t))
  net_peer-same namespace (net.Pods namespaces pods) agree = pods-same namespace namespaces pods agree
  net_peer-same namespace (net.Block cidr excepts) agree = refl

  admin_peer-same : (peer : AdminPeer) → AllByRecursion (Agree s t) (of_admin_peer peer) → admin_peer_matches peer (pod (stranger_end s)) Four ≡ admin_peer_matches peer (pod (stranger_end t)) Four
  admin_peer-same (admin.Pods namespaces pods) agree =
      let parts = All-parts (Agree s t) (of_selector Namespace namespaces) (of_selector Pod pods) agree in
      ap (λ b. b && meets_selector pods s.labels) (selector-same Namespace namespaces parts.0) ∙ ap (λ b. meets_selector namespaces t.namespace && b) (selector-same Pod pods parts.1)
  admin_peer-same (admin.Networks cidrs) agree = refl

  -- ---- ports, where the packet goes to the near pod or to a stranger, who has no named ports

  net_entry-same : (direction : Direction) (near : PodEnd) (spot : PortSpot) (entry : NetPort) →
      net_entry_matches entry (destination_of direction (pod near) (pod (stranger_end s))) spot ≡ net_entry_matches entry (destination_of direction (pod near) (pod (stranger_end t))) spot
  net_entry-same Ingress near spot entry = refl
  net_entry-same Egress near spot (net_port.Span proto lo hi) = refl
  net_entry-same Egress near spot (net_port.Named proto port) = refl

  admin_entry-same : (direction : Direction) (near : PodEnd) (spot : PortSpot) (entry : AdminPort) →
      admin_entry_matches entry (destination_of direction (pod near) (pod (stranger_end s))) spot ≡ admin_entry_matches entry (destination_of direction (pod near) (pod (stranger_end t))) spot
  admin_entry-same Ingress near spot entry = refl
  admin_entry-same Egress near spot (admin_port.Span proto lo hi) = refl
  admin_entry-same Egress near spot (admin_port.Named port) = refl

  module _ (side : PodSide) (spot : PortSpot) where
    abbrev one : Contact
    one = with_stranger s side spot

    abbrev other : Contact
    other = with_stranger t side spot

    -- ---- rules

    admin_rule-same : (rule : AdminRule) → AllByRecursion (Agree s t) (of_admin_rule rule) → admin_rule_matches rule one ≡ admin_rule_matches rule other
    admin_rule-same rule agree =
        ap (λ b. b && none_or_any (λ entry. admin_entry_matches entry one.destination spot) rule.ports)
        (list_any-same (λ peer. admin_peer_matches peer one.far Four) (λ peer. admin_peer_matches peer other.far Four) rule.peers
        (All-weaker (λ peer. AllByRecursion (Agree s t) (of_admin_peer peer)) (λ peer. admin_peer_matches peer one.far Four ≡ admin_peer_matches peer other.far Four) admin_peer-same rule.peers
        (All-flat (Agree s t) of_admin_peer rule.peers agree)))
        ∙ ap (λ b. list_any (λ peer. admin_peer_matches peer other.far Four) rule.peers && b)
        (none_or_any-same (λ entry. admin_entry_matches entry one.destination spot) (λ entry. admin_entry_matches entry other.destination spot) rule.ports
        (All-each _ (admin_entry-same side.direction (near_pod side) spot) rule.ports))

    net_rule-same : (namespace : List ℕ) (rule : NetRule) → AllByRecursion (Agree s t) (of_net_rule namespace rule) → net_rule_matches namespace rule one ≡ net_rule_matches namespace rule other
    net_rule-same namespace rule agree =
        ap (λ b. b && none_or_any (λ entry. net_entry_matches entry one.destination spot) rule.ports)
        (none_or_any-same (λ peer. net_peer_matches namespace peer one.far) (λ peer. net_peer_matches namespace peer other.far) rule.peers
        (All-weaker (λ peer. AllByRecursion (Agree s t) (of_net_peer namespace peer)) (λ peer. net_peer_matches namespace peer one.far ≡ net_peer_matches namespace peer other.far)
        (net_peer-same namespace) rule.peers (All-flat (Agree s t) (of_net_peer namespace) rule.peers agree)))
        ∙ ap (λ b. none_or_any (λ peer. net_peer_matches namespace peer other.far) rule.peers && b)
        (none_or_any-same (λ entry. net_entry_matches entry one.destination spot) (λ entry. net_entry_matches entry other.destination spot) rule.ports
        (All-each _ (net_entry-same side.direction (near_pod side) spot) rule.ports))

    -- ---- tiers

    admin-same : AllByRecursion (Agree s t) (flat_map (λ placed. of_admin_rule placed.rule) (admin_places side.lists.admin_policies side.direction (near_pod side))) →
        admin_decider side.lists.admin_policies side.direction (near_pod side) one ≡ admin_decider side.lists.admin_policies side.direction (near_pod side) other
    admin-same agree =
        let places = admin_places side.lists.admin_policies side.direction (near_pod side) in
        ap (least_by admin_precedes)
        (filter-same (λ placed. admin_rule_matches placed.rule one) (λ placed. admin_rule_matches placed.rule other) places
        (All-weaker (λ placed. AllByRecursion (Agree s t) (of_admin_rule placed.rule)) (λ placed. admin_rule_matches placed.rule one ≡ admin_rule_matches placed.rule other)
        (λ placed. admin_rule-same placed.rule) places (All-flat (Agree s t) (λ placed. of_admin_rule placed.rule) places agree)))

    net-same : AllByRecursion (Agree s t) (flat_map of_placed (net_places side.lists.net_policies side.direction (near_pod side))) →
        permits side.lists.net_policies side.direction (near_pod side) one ≡ permits side.lists.net_policies side.direction (near_pod side) other
    net-same agree =
        let places = net_places side.lists.net_policies side.direction (near_pod side) in
        list_any-same (placed_net_matches one) (placed_net_matches other) places
        (All-weaker (λ placed. AllByRecursion (Agree s t) (of_placed placed)) (λ placed. placed_net_matches one placed ≡ placed_net_matches other placed)
        (λ placed. net_rule-same placed.policy.namespace placed.rule) places (All-flat (Agree s t) of_placed places agree))

    base-same : AllByRecursion (Agree s t) (flat_map (λ placed. of_admin_rule placed.rule) (base_places side.lists.baseline side.direction (near_pod side))) →
        base_decider side.lists.baseline side.direction (near_pod side) one ≡ base_decider side.lists.baseline side.direction (near_pod side) other
    base-same agree =
        let places = base_places side.lists.baseline side.direction (near_pod side) in
        find-same (λ placed. admin_rule_matches placed.rule one) (λ placed. admin_rule_matches placed.rule other) places
        (All-weaker (λ placed. AllByRecursion (Agree s t) (of_admin_rule placed.rule)) (λ placed. admin_rule_matches placed.rule one ≡ admin_rule_matches placed.rule other)
        (λ placed. admin_rule-same placed.rule) places (All-flat (Agree s t) (λ placed. of_admin_rule placed.rule) places agree))

    pub exposes-same : AllByRecursion (Agree s t) (mentions side) → exposes side s spot ≡ exposes side t spot
    unfolding mentions side_allows
    exposes-same agree =
        let lists = side.lists in
        let p = near_pod side in
        let both = All-parts (Agree s t) (flat_map (λ placed. of_admin_rule placed.rule) (admin_places lists.admin_policies side.direction p) ++ flat_map of_placed
        (net_places lists.net_policies side.direction p)) (flat_map (λ placed. of_admin_rule placed.rule) (base_places lists.baseline side.direction p)) agree in
        let front = All-parts (Agree s t) (flat_map (λ placed. of_admin_rule placed.rule) (admin_places lists.admin_policies side.direction p))
        (flat_map of_placed (net_places lists.net_policies side.direction p)) both.0 in
        ap (λ decides. admin_says decides (lower_allows lists side.direction p one)) (admin-same front.0)
        ∙ ap (λ allowed. admin_says (admin_decider lists.admin_policies side.direction p other)
        (if is_isolated lists.net_policies side.direction p then allowed else base_says (base_decider lists.baseline side.direction p one))) (net-same front.1)
        ∙ ap (λ decides. admin_says (admin_decider lists.admin_policies side.direction p other)
        (if is_isolated lists.net_policies side.direction p then permits lists.net_policies side.direction p other else base_says decides)) (base-same both.1)
