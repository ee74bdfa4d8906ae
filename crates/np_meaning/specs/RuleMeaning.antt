-- Whom policies select and what their rules match, once more in the words of the references (Kubernetes API reference,
-- NetworkPolicySpec, NetworkPolicyPeer, IPBlock, NetworkPolicyPort, NetworkPolicyIngressRule and NetworkPolicyEgressRule;
-- network-policy-api reference, AdminNetworkPolicySubject, AdminNetworkPolicyEgressPeer, AdminNetworkPolicyPort and
-- AdminNetworkPolicyIngressRule).
use Rattle.std.specs.Prelude.{◌≡◌, ◌≤◌, ◌⊎◌, ℕ, List, [], Contains, Option, Some, None, false, true}
use Rattle.np_addr.specs.Prelude.{cidr_has, family_of}
use Rattle.np_labels.specs.Prelude.{meets_selector}
use Rattle.np_meaning.specs.Types.{Address, AdminPeer, AdminPort, AdminRule, Cidr, Family, NamedPort, NetPeer, NetPolicy, NetPort, NetRule, Pair, PortSpot, Proto, Selector, Subject}
use Rattle.np_model.specs.declared.admin_policy.AdminPeer.TheVariants as admin
use Rattle.np_model.specs.declared.admin_policy.AdminPort.TheVariants as admin_port
use Rattle.np_model.specs.declared.network_policy.NetPeer.TheVariants as net
use Rattle.np_model.specs.declared.network_policy.NetPort.TheVariants as net_port
use Rattle.np_rules.specs.Prelude.{Contact, ModelEnd, PodEnd, address, pod}

-- a selector selects what has these labels
abbrev pub Selects : Selector → List Pair → Type 0
Selects selector labels = meets_selector selector labels ≡ true

-- ---- whom policies select

-- `podSelector` of a NetworkPolicy selects pods of the policy's own namespace
pub record IsPodOfPolicy (policy : NetPolicy) (p : PodEnd) : Type 0 where
  pub namespace : p.namespace ≡ policy.namespace
  pub labels : Selects policy.subject p.labels

-- a subject selects namespaces by their labels, and in these pods by theirs
pub record IsPodOfSubject (subject : Subject) (p : PodEnd) : Type 0 where
  pub namespace : Selects subject.namespaces p.namespace_labels
  pub labels : Selects subject.pods p.labels

-- ---- the peers of NetworkPolicies

-- The pods that a peer selects, of a policy in a namespace: those that `podSelector` selects, which are all where it is missing, in
-- the namespaces that `namespaceSelector` selects, which is the policy's own where that is missing. One of the two is there.
pub record IsPodOfPeer (home : List ℕ) (namespaces pods : Option Selector) (p : PodEnd) : Type 0 where
  pub some : namespaces ≡ None → pods ≡ None → ⊥
  pub own : namespaces ≡ None → p.namespace ≡ home
  pub namespace : (selector : Selector) → namespaces ≡ Some selector → Selects selector p.namespace_labels
  pub labels : (selector : Selector) → pods ≡ Some selector → Selects selector p.labels

-- an address of `cidr` that is in none of `except`
pub record IsAddressOfBlock (cidr : Cidr) (excepts : List Cidr) (a : Address) : Type 0 where
  pub inside : cidr_has cidr a ≡ true
  pub outside : (except : Cidr) → Contains excepts except → cidr_has except a ≡ false

-- a peer of selectors stands for pods alone, and one of `ipBlock` for addresses alone
abbrev pub IsOfNetPeer : List ℕ → NetPeer → ModelEnd → Type 0
IsOfNetPeer own (net.Pods namespaces pods) far = (p : PodEnd) × (far ≡ pod p) × IsPodOfPeer own namespaces pods p
IsOfNetPeer own (net.Block cidr excepts) far = (a : Address) × (far ≡ address a) × IsAddressOfBlock cidr excepts a

-- ---- the peers of admin policies

-- an address of the end in packets of the family: a pod's own of that family, and an address itself
abbrev pub HasAddress : ModelEnd → Family → Address → Type 0
HasAddress (pod p) family a = Contains p.addresses a × (family_of a ≡ family)
HasAddress (address one) family a = one ≡ a

-- some address of the end is in one of `networks`
pub record IsInNetworks (cidrs : List Cidr) (far : ModelEnd) (family : Family) : Type 0 where
  pub a : Address
  pub its : HasAddress far family a
  pub network : Cidr
  pub among : Contains cidrs network
  pub inside : cidr_has network a ≡ true

-- a peer of selectors stands for the pods that both select, and one of `networks` for pods and addresses
abbrev pub IsOfAdminPeer : AdminPeer → ModelEnd → Family → Type 0
IsOfAdminPeer (admin.Pods namespaces pods) far family = (p : PodEnd) × (far ≡ pod p) × Selects namespaces p.namespace_labels × Selects pods p.labels
IsOfAdminPeer (admin.Networks cidrs) far family = IsInNetworks cidrs far family

-- ---- ports

-- a port of the protocol, from the first number to the last
pub record IsInSpan (asked : Proto) (first last : ℕ) (spot : PortSpot) : Type 0 where
  pub proto : spot.proto ≡ asked
  pub above : first ≤ spot.port
  pub below : spot.port ≤ last

-- a container port of that name of the pod that a packet goes to, which has the packet's protocol and port
pub record IsPortNamed (name : List ℕ) (destination : ModelEnd) (spot : PortSpot) : Type 0 where
  pub p : PodEnd
  pub its : destination ≡ pod p
  pub port : NamedPort
  pub among : Contains p.ports port
  pub called : port.name ≡ name
  pub proto : port.proto ≡ spot.proto
  pub number : port.number ≡ spot.port

-- an entry of `ports` of a NetworkPolicy, of which a named port has the protocol of the entry, too
abbrev pub IsOfNetPort : NetPort → ModelEnd → PortSpot → Type 0
IsOfNetPort (net_port.Span proto first last) destination spot = IsInSpan proto first last spot
IsOfNetPort (net_port.Named proto name) destination spot = (spot.proto ≡ proto) × IsPortNamed name destination spot

-- an entry of `ports` of an admin policy, of which a named port has the protocol of the container port
abbrev pub IsOfAdminPort : AdminPort → ModelEnd → PortSpot → Type 0
IsOfAdminPort (admin_port.Span proto first last) destination spot = IsInSpan proto first last spot
IsOfAdminPort (admin_port.Named name) destination spot = IsPortNamed name destination spot

-- ---- rules

-- items are combined by a logical or
abbrev pub IsOfSome : {X : Type 0} → (X → Type 0) → List X → Type 0
IsOfSome {X} Is items = (item : X) × Contains items item × Is item

-- where the field is empty or missing, the rule is not restricted by it
abbrev pub IsOfSomeOrFree : {X : Type 0} → (X → Type 0) → List X → Type 0
IsOfSomeOrFree Is items = (items ≡ []) ⊎ IsOfSome Is items

-- a rule of a NetworkPolicy of a namespace: both fields let the packet through
pub record IsOfNetRule (own : List ℕ) (rule : NetRule) (contact : Contact) : Type 0 where
  pub peers : IsOfSomeOrFree (λ peer. IsOfNetPeer own peer contact.far) rule.peers
  pub ports : IsOfSomeOrFree (λ entry. IsOfNetPort entry contact.destination contact.spot) rule.ports

-- an admin rule, which has at least one peer
pub record IsOfAdminRule (rule : AdminRule) (contact : Contact) : Type 0 where
  pub peers : IsOfSome (λ peer. IsOfAdminPeer peer contact.far contact.family) rule.peers
  pub ports : IsOfSomeOrFree (λ entry. IsOfAdminPort entry contact.destination contact.spot) rule.ports
