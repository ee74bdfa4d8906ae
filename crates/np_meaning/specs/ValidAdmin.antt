-- Valid AdminNetworkPolicies and BaselineAdminNetworkPolicies (network-policy-api reference, AdminNetworkPolicySpec,
-- BaselineAdminNetworkPolicySpec, AdminNetworkPolicySubject, NamespacedPod, AdminNetworkPolicyIngressRule,
-- AdminNetworkPolicyEgressRule, AdminNetworkPolicyIngressPeer, AdminNetworkPolicyEgressPeer and AdminNetworkPolicyPort), without the
-- peers that stand for nodes or for domain names, which are refused by name.
use Rattle.std.specs.Prelude.{◌≡◌, ◌≤◌, ◌⊎◌, ℕ, pos, List, None, Some, codes}
use Rattle.serde_json.specs.Data.{Data}
use Rattle.np_addr.specs.Prelude.{IsCidrText}
use Rattle.np_json.specs.Prelude.{as_whole, member_of}
use Rattle.np_meaning.specs.Types.{Cidr}
use Rattle.np_meaning.specs.ValidMembers.{Has, IsListOf, IsObject, IsSubdomain, IsText, IsThe, IsTyped, MayHave}
use Rattle.np_meaning.specs.ValidPolicies.{IsEither, IsPort, IsPortName, IsProtocol, IsSomeOf, IsSomePort, IsValidSelector}

-- ---- subjects and peers

-- `pods`: both selectors are there
pub record IsNamespacedPod (value : Data) : Type 0 where
  pub object : IsObject value
  pub namespaces : Has (codes "namespaceSelector") IsValidSelector value
  pub pods : Has (codes "podSelector") IsValidSelector value

-- `namespaces` alone
pub record IsOfNamespaces (value : Data) : Type 0 where
  pub namespaces : Has (codes "namespaces") IsValidSelector value
  pub no_pods : member_of (codes "pods") value ≡ None

-- `pods` alone
pub record IsOfPods (value : Data) : Type 0 where
  pub pods : Has (codes "pods") IsNamespacedPod value
  pub no_namespaces : member_of (codes "namespaces") value ≡ None

-- exactly one of the two, as a subject has and a peer of ingress
pub record IsValidSubject (value : Data) : Type 0 where
  pub object : IsObject value
  pub one : IsOfNamespaces value ⊎ IsOfPods value

-- a text that writes a block
abbrev pub IsBlockText : List ℕ → Type 0
IsBlockText text = (block : Cidr) × IsCidrText text block

-- `networks` alone: at least one block
pub record IsOfNetworks (value : Data) : Type 0 where
  pub networks : Has (codes "networks") (IsSomeOf (IsText IsBlockText)) value
  pub no_namespaces : member_of (codes "namespaces") value ≡ None
  pub no_pods : member_of (codes "pods") value ≡ None

-- one of the two, without `networks`
pub record IsOfEither (value : Data) : Type 0 where
  pub one : IsOfNamespaces value ⊎ IsOfPods value
  pub no_networks : member_of (codes "networks") value ≡ None

pub record IsValidEgressPeer (value : Data) : Type 0 where
  pub object : IsObject value
  pub no_nodes : member_of (codes "nodes") value ≡ None
  pub no_domains : member_of (codes "domainNames") value ≡ None
  pub one : IsOfNetworks value ⊎ IsOfEither value

-- ---- ports

pub record IsOnePort (value : Data) : Type 0 where
  pub object : IsObject value
  pub protocol : MayHave (codes "protocol") (IsText IsProtocol) value
  pub port : Has (codes "port") IsSomePort value

pub record IsPortRange (value : Data) : Type 0 where
  pub object : IsObject value
  pub protocol : MayHave (codes "protocol") (IsText IsProtocol) value
  pub first : ℕ
  pub last : ℕ
  pub start : Has (codes "start") (IsPort first) value
  pub end : Has (codes "end") (IsPort last) value
  pub order : first ≤ last

pub record HasPortNumber (value : Data) : Type 0 where
  pub port : Has (codes "portNumber") IsOnePort value
  pub no_range : member_of (codes "portRange") value ≡ None
  pub no_name : member_of (codes "namedPort") value ≡ None

pub record HasPortRange (value : Data) : Type 0 where
  pub range : Has (codes "portRange") IsPortRange value
  pub no_number : member_of (codes "portNumber") value ≡ None
  pub no_name : member_of (codes "namedPort") value ≡ None

pub record HasNamedPort (value : Data) : Type 0 where
  pub name : Has (codes "namedPort") (IsText IsPortName) value
  pub no_number : member_of (codes "portNumber") value ≡ None
  pub no_range : member_of (codes "portRange") value ≡ None

-- exactly one of the three
pub record IsValidAdminPort (value : Data) : Type 0 where
  pub object : IsObject value
  pub one : HasPortNumber value ⊎ (HasPortRange value ⊎ HasNamedPort value)

-- ---- rules

-- what an AdminNetworkPolicy may do, and what a baseline may
abbrev pub IsAdminAction : List ℕ → Type 0
IsAdminAction text = (text ≡ codes "Pass") ⊎ IsEither (codes "Allow") (codes "Deny") text

abbrev pub IsBaselineAction : List ℕ → Type 0
IsBaselineAction text = IsEither (codes "Allow") (codes "Deny") text

-- an entry of `ingress` or `egress`: at least one peer
pub record IsValidAdminRule (IsAction : List ℕ → Type 0) (peers_name : List ℕ) (IsPeer : Data → Type 0) (value : Data) : Type 0 where
  pub object : IsObject value
  pub action : Has (codes "action") (IsText IsAction) value
  pub peers : Has peers_name (IsSomeOf IsPeer) value
  pub ports : MayHave (codes "ports") (IsListOf IsValidAdminPort) value

-- the subject, and the rules of both directions
pub record AreValidRules (IsAction : List ℕ → Type 0) (value : Data) : Type 0 where
  pub object : IsObject value
  pub subject : Has (codes "subject") IsValidSubject value
  pub ingress : MayHave (codes "ingress") (IsListOf (IsValidAdminRule IsAction (codes "from") IsValidSubject)) value
  pub egress : MayHave (codes "egress") (IsListOf (IsValidAdminRule IsAction (codes "to") IsValidEgressPeer)) value

-- ---- policies

-- from 0 to 1000
abbrev pub IsPriority : Data → Type 0
IsPriority value = (n : ℕ) × (as_whole value ≡ Some (pos n)) × (n ≤ 1000)

pub record IsValidAdminSpec (value : Data) : Type 0 where
  pub priority : Has (codes "priority") IsPriority value
  pub rules : AreValidRules IsAdminAction value

-- metadata with a name that is so
pub record IsCalledMeta (IsName : List ℕ → Type 0) (value : Data) : Type 0 where
  pub object : IsObject value
  pub name : Has (codes "name") (IsText IsName) value

pub record IsValidAdminPolicy (value : Data) : Type 0 where
  pub type : IsTyped (codes "policy.networking.k8s.io/v1alpha1") (codes "AdminNetworkPolicy") value
  pub metadata : Has (codes "metadata") (IsCalledMeta IsSubdomain) value
  pub spec : Has (codes "spec") IsValidAdminSpec value

-- the baseline is named `default`
pub record IsValidBasePolicy (value : Data) : Type 0 where
  pub type : IsTyped (codes "policy.networking.k8s.io/v1alpha1") (codes "BaselineAdminNetworkPolicy") value
  pub metadata : Has (codes "metadata") (IsCalledMeta (IsThe (codes "default"))) value
  pub spec : Has (codes "spec") (AreValidRules IsBaselineAction) value
