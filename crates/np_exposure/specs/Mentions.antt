-- The requirements that the peers of the rules mention that speak of a pod in a direction.
use Rattle.std.specs.Prelude.{ℕ, List, [], ◌∷◌, ◌++◌, map, fold, flat_map, Bool, true, false, ◌&&◌, Option, Some, None, is_some, if◌then◌else◌, codes}
use Rattle.std.specs.List.{list_any}
use Rattle.std.specs.Option.{option_map_or}
use Rattle.std.specs.Str.{bytes_eq}
use lib.Pointwise.{pointwise}
use Rattle.np_exposure.specs.Types.{Absent, AdminPeer, AdminRule, Namespace, NetPeer, NetRule, NoneOf, OneOf, Op, Pod, Present, Selector, Side, SidedRequirement}
use Rattle.np_labels.specs.Prelude.{label_requirement}
use Rattle.np_model.specs.declared.admin_policy.AdminPeer.TheVariants as admin
use Rattle.np_model.specs.declared.network_policy.NetPeer.TheVariants as net
use Rattle.np_rules.specs.Prelude.{PlacedNetRule, PodSide, admin_places, base_places, near_pod, net_places}

-- ---- what a peer mentions: first on the side of the namespace, then on the side of the pod

-- the requirements of a selector, in order
abbrev pub of_selector : Side → Selector → List SidedRequirement
of_selector side selector = map (λ requirement. record { side = side; requirement = requirement }) selector.requirements

abbrev pub of_optional : Side → Option Selector → List SidedRequirement
of_optional side found = option_map_or (of_selector side) found []

-- the requirement that the namespace is the one of this name
abbrev pub namespace_is : List ℕ → SidedRequirement
namespace_is namespace = record { side = Namespace; requirement = label_requirement (codes "kubernetes.io/metadata.name", namespace) }

-- A pod selector alone stands for pods of the policy's namespace.
abbrev pub of_namespaces : List ℕ → Option Selector → Bool → List SidedRequirement
of_namespaces namespace (Some namespaces) has_pods = of_selector Namespace namespaces
of_namespaces namespace None true = namespace_is namespace ∷ []
of_namespaces namespace None false = []

-- A peer of a NetworkPolicy of this namespace. A block of addresses mentions nothing.
abbrev pub of_net_peer : List ℕ → NetPeer → List SidedRequirement
of_net_peer namespace (net.Pods namespaces pods) = of_namespaces namespace namespaces (is_some pods) ++ of_optional Pod pods
of_net_peer namespace (net.Block cidr excepts) = []

-- A peer of an admin rule. Networks mention nothing.
abbrev pub of_admin_peer : AdminPeer → List SidedRequirement
of_admin_peer (admin.Pods namespaces pods) = of_selector Namespace namespaces ++ of_selector Pod pods
of_admin_peer (admin.Networks cidrs) = []

-- ---- what rules mention

abbrev pub of_net_rule : List ℕ → NetRule → List SidedRequirement
of_net_rule namespace rule = flat_map (of_net_peer namespace) rule.peers

abbrev pub of_placed : PlacedNetRule → List SidedRequirement
of_placed placed = of_net_rule placed.policy.namespace placed.rule

abbrev pub of_admin_rule : AdminRule → List SidedRequirement
of_admin_rule rule = flat_map of_admin_peer rule.peers

-- what the rules mention that speak of the side's pod: admin policies by priority, NetworkPolicies by name, the baseline
unfoldable pub mentions : PodSide → List SidedRequirement
mentions side = flat_map (λ placed. of_admin_rule placed.rule) (admin_places side.lists.admin_policies side.direction (near_pod side))
    ++ flat_map of_placed (net_places side.lists.net_policies side.direction (near_pod side))
    ++ flat_map (λ placed. of_admin_rule placed.rule) (base_places side.lists.baseline side.direction (near_pod side))

-- ---- each once

abbrev pub same_side : Side → Side → Bool
same_side Namespace Namespace = true
same_side Pod Pod = true
same_side one other = false

abbrev pub same_op : Op → Op → Bool
same_op OneOf OneOf = true
same_op NoneOf NoneOf = true
same_op Present Present = true
same_op Absent Absent = true
same_op op other = false

-- whether two requirements have one side, key and operator, and the same values
abbrev pub is_same : SidedRequirement → SidedRequirement → Bool
is_same a b =
    same_side a.side b.side && (bytes_eq a.requirement.key b.requirement.key
    && (same_op a.requirement.op b.requirement.op && pointwise bytes_eq a.requirement.values b.requirement.values))

-- one more requirement, put last unless it is there
abbrev pub with_more : List SidedRequirement → SidedRequirement → List SidedRequirement
with_more made asked = if list_any (λ known. is_same known asked) made then made else made ++ asked ∷ []

-- the mentioned requirements, each once, in the order of first mention
abbrev pub each_once : List SidedRequirement → List SidedRequirement
each_once all = fold with_more [] all

abbrev pub requirements : PodSide → List SidedRequirement
requirements side = each_once (mentions side)
