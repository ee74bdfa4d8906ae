-- Ends that a peer and a port entry do not tell apart. For KindRules, KindSides and KindVerdicts.
use Rattle.std.proofs.Common.{◌≡◌, ℕ, List, [], ◌∷◌, ◌++◌, Bool, ◌&&◌, Option, Some, None, refl, sym, ap, ◌∙◌}
use Rattle.std.specs.List.{AllByRecursion}
use Rattle.np_base.proofs.Each.{All-parts}
use Rattle.np_addr.specs.Prelude.{cidr_has}
use Rattle.np_kinds.specs.Prelude.{Address, AdminPeer, AdminPort, Family, NetPeer, NetPort, PortSpot}
use Rattle.np_addr.specs.declared.cidr.Cidr.{Cidr}
use Rattle.np_conns.specs.Prelude.{same_proto}
use Rattle.np_fold.specs.Prelude.{cidrs_of_peer, is_in, keys_of_admin_peer, keys_of_net_peer, keys_of_optional, keys_of_selector}
use Rattle.np_fold.proofs.SelectorLemmas.{selector-agree}
use Rattle.np_labels.specs.Prelude.{AgreeOn, value_of}
use Rattle.np_labels.specs.declared.selector.Selector.{Selector}
use Rattle.np_model.specs.declared.admin_policy.AdminPeer.TheVariants as admin
use Rattle.np_model.specs.declared.admin_policy.AdminPort.TheVariants as admin_port
use Rattle.np_model.specs.declared.network_policy.NetPeer.TheVariants as net
use Rattle.np_model.specs.declared.network_policy.NetPort.TheVariants as net_port
use Rattle.np_rules.proofs.BlockPeers.{by_blocks}
use Rattle.np_rules.specs.Prelude.{ModelEnd, PodEnd, address, admin_entry_matches, admin_peer_matches, has_named, net_entry_matches, net_peer_matches, pod, pods_match, some_inside}

-- two pods with equal namespaces and named ports
pub record SamePod (p q : PodEnd) : Type 0 where
  pub namespace : p.namespace ≡ q.namespace
  pub namespace_labels : p.namespace_labels ≡ q.namespace_labels
  pub ports : p.ports ≡ q.ports

-- two such pods, or one address twice
abbrev pub SameEnd : ModelEnd → ModelEnd → Type 0
SameEnd (pod p) (pod q) = SamePod p q
SameEnd (address a) (address b) = a ≡ b
SameEnd (pod p) (address b) = ⊥
SameEnd (address a) (pod q) = ⊥

abbrev value_at : ModelEnd → List ℕ → Option (List ℕ)
value_at (pod p) key = value_of p.labels key
value_at (address a) key = None

abbrev is_inside : ModelEnd → Cidr → Bool
is_inside (pod p) cidr = is_in p.addresses cidr
is_inside (address a) cidr = cidr_has cidr a

-- both ends have the same value of the key
abbrev pub AgreeAt : ModelEnd → ModelEnd → List ℕ → Type 0
AgreeAt one other key = value_at one key ≡ value_at other key

-- both ends have an address in the block, or neither has
abbrev pub AgreeIn : ModelEnd → ModelEnd → Cidr → Type 0
AgreeIn one other cidr = is_inside one cidr ≡ is_inside other cidr

-- ---- peers of NetworkPolicies

pods-same : (namespace : List ℕ) (namespaces pods : Option Selector) (p q : PodEnd) → SamePod p q → AllByRecursion (AgreeOn p.labels q.labels) (keys_of_optional namespaces ++ keys_of_optional pods) →
    pods_match namespace namespaces pods p ≡ pods_match namespace namespaces pods q
pods-same namespace None None p q same agree = refl
pods-same namespace None (Some pods) p q same agree = rw (same.namespace, selector-agree p.labels q.labels pods agree) refl
pods-same namespace (Some namespaces) None p q same agree = rw same.namespace_labels refl
pods-same namespace (Some namespaces) (Some pods) p q same agree =
    let parts = All-parts (AgreeOn p.labels q.labels) (keys_of_selector namespaces) (keys_of_selector pods) agree in
    rw (same.namespace_labels, selector-agree p.labels q.labels pods parts.1) refl

pub net_peer-same : (namespace : List ℕ) (peer : NetPeer) (one other : ModelEnd) → SameEnd one other → AllByRecursion (AgreeAt one other) (keys_of_net_peer peer) →
    net_peer_matches namespace peer one ≡ net_peer_matches namespace peer other
net_peer-same namespace (net.Pods namespaces pods) (pod p) (pod q) same agree = pods-same namespace namespaces pods p q same agree
net_peer-same namespace (net.Pods namespaces pods) (address a) (address b) same agree = refl
net_peer-same namespace (net.Block cidr excepts) (pod p) (pod q) same agree = refl
net_peer-same namespace (net.Block cidr excepts) (address a) (address b) same agree = rw same refl
net_peer-same namespace peer (pod p) (address b) same agree = absurd same
net_peer-same namespace peer (address a) (pod q) same agree = absurd same

-- ---- peers of admin rules

inside-same : (family : Family) (one other : List Address) (cidrs : List Cidr) → AllByRecursion (λ cidr. is_in one cidr ≡ is_in other cidr) cidrs →
    some_inside family cidrs one ≡ some_inside family cidrs other
inside-same family one other [] agree = refl
inside-same family one other (cidr ∷ cidrs) agree = rw (agree.0, inside-same family one other cidrs agree.1) refl

pub admin_peer-same : (peer : AdminPeer) (one other : ModelEnd) (family : Family) → SameEnd one other → AllByRecursion (AgreeAt one other) (keys_of_admin_peer peer) →
    AllByRecursion (AgreeIn one other) (cidrs_of_peer peer) → admin_peer_matches peer one family ≡ admin_peer_matches peer other family
admin_peer-same (admin.Pods namespaces pods) (pod p) (pod q) family same agree within =
    let parts = All-parts (AgreeOn p.labels q.labels) (keys_of_selector namespaces) (keys_of_selector pods) agree in
    rw (same.namespace_labels, selector-agree p.labels q.labels pods parts.1) refl
admin_peer-same (admin.Networks cidrs) (pod p) (pod q) family same agree within =
    by_blocks family cidrs p.addresses ∙ inside-same family p.addresses q.addresses cidrs within ∙ sym (by_blocks family cidrs q.addresses)
admin_peer-same (admin.Pods namespaces pods) (address a) (address b) family same agree within = refl
admin_peer-same (admin.Networks cidrs) (address a) (address b) family same agree within = rw same refl
admin_peer-same peer (pod p) (address b) family same agree within = absurd same
admin_peer-same peer (address a) (pod q) family same agree within = absurd same

-- ---- port entries

named-same : (name : List ℕ) (spot : PortSpot) (one other : ModelEnd) → SameEnd one other → has_named name spot one ≡ has_named name spot other
named-same name spot (pod p) (pod q) same = rw same.ports refl
named-same name spot (address a) (address b) same = refl
named-same name spot (pod p) (address b) same = absurd same
named-same name spot (address a) (pod q) same = absurd same

pub net_entry-same : (one other : ModelEnd) (spot : PortSpot) → SameEnd one other → (entry : NetPort) → net_entry_matches entry one spot ≡ net_entry_matches entry other spot
net_entry-same one other spot same (net_port.Span proto lo hi) = refl
net_entry-same one other spot same (net_port.Named proto name) = ap (λ b. same_proto spot.proto proto && b) (named-same name spot one other same)

pub admin_entry-same : (one other : ModelEnd) (spot : PortSpot) → SameEnd one other → (entry : AdminPort) → admin_entry_matches entry one spot ≡ admin_entry_matches entry other spot
admin_entry-same one other spot same (admin_port.Span proto lo hi) = refl
admin_entry-same one other spot same (admin_port.Named name) = named-same name spot one other same
