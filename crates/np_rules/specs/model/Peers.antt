-- Which ends a peer stands for.
use Rattle.std.specs.Prelude.{ℕ, List, Bool, false, ◌&&◌, Option, Some, None}
use Rattle.std.specs.List.{list_any}
use Rattle.std.specs.Str.{bytes_eq}
use Rattle.np_addr.specs.Prelude.{block_has, some_block_has}
use Rattle.np_rules.specs.Types.{AdminPeer, Family, NetPeer}
use Rattle.np_model.specs.Prelude.{is_of}
use Rattle.np_labels.specs.Prelude.{meets_selector}
use Rattle.np_labels.specs.declared.selector.Selector.{Selector}
use Rattle.np_model.specs.declared.admin_policy.AdminPeer.TheVariants as admin
use Rattle.np_model.specs.declared.network_policy.NetPeer.TheVariants as net
use Rattle.np_rules.specs.model.Ends.{ModelEnd, PodEnd, pod, address}

-- whether a pod is one of those that the two selectors of a NetworkPolicy's peer stand for
abbrev pub pods_match : List ℕ → Option Selector → Option Selector → PodEnd → Bool
pods_match namespace None None p = false
pods_match namespace None (Some pods) p = bytes_eq namespace p.namespace && meets_selector pods p.labels
pods_match namespace (Some namespaces) None p = meets_selector namespaces p.namespace_labels
pods_match namespace (Some namespaces) (Some pods) p = meets_selector namespaces p.namespace_labels && meets_selector pods p.labels

-- A peer of a NetworkPolicy of this namespace. A pod selector alone stands for pods of that namespace, and a block for
-- addresses alone: it never matches a pod, whatever addresses the pod has. An implementation that matches pods by
-- blocks too permits more than this model.
abbrev pub net_peer_matches : List ℕ → NetPeer → ModelEnd → Bool
net_peer_matches namespace (net.Pods namespaces pods) (pod p) = pods_match namespace namespaces pods p
net_peer_matches namespace (net.Block cidr excepts) (address a) = block_has cidr excepts a
net_peer_matches namespace peer far = false

-- A peer of an admin rule, for a packet of a family. Networks stand for the addresses in them, and for the pods of
-- which some address of that family is in them.
abbrev pub admin_peer_matches : AdminPeer → ModelEnd → Family → Bool
admin_peer_matches (admin.Pods namespaces pods) (pod p) family = meets_selector namespaces p.namespace_labels && meets_selector pods p.labels
admin_peer_matches (admin.Pods namespaces pods) (address a) family = false
admin_peer_matches (admin.Networks cidrs) (pod p) family = list_any (λ a. is_of family a && some_block_has cidrs a) p.addresses
admin_peer_matches (admin.Networks cidrs) (address a) family = some_block_has cidrs a
