-- Valid NetworkPolicies (Kubernetes API reference, NetworkPolicySpec, NetworkPolicyIngressRule, NetworkPolicyEgressRule,
-- NetworkPolicyPeer, NetworkPolicyPort, IPBlock, LabelSelector and LabelSelectorRequirement).
use Rattle.std.specs.Prelude.{◌≡◌, ◌<◌, ◌≤◌, ◌⊎◌, ℕ, pos, List, nat_le, ◌&&◌, Bool, length, true, Some, None, codes}
use Rattle.std.specs.List.{list_all, list_any}
use Rattle.serde_json.specs.Data.{Data, Items, no_items, item}
use Rattle.serde_json.specs.Find.{as_array}
use Rattle.np_addr.specs.Prelude.{IsCidrText, base_of, bits_of, cidr_has}
use Rattle.np_json.specs.Prelude.{as_whole, member_of}
use Rattle.np_meaning.specs.Types.{Cidr}
use Rattle.np_meaning.specs.ValidMembers.{AreAll, Has, IsDnsLabel, IsLabel, IsLabelKey, IsLabelValue, IsListOf, IsMapOf, IsObject, IsSubdomain, IsText, IsTyped, MayHave, is_label_byte}

-- one of two texts
abbrev pub IsEither : List ℕ → List ℕ → List ℕ → Type 0
IsEither one other text = (text ≡ one) ⊎ (text ≡ other)

-- ---- selectors

-- a list of at least one item, of which each is so
abbrev pub IsSomeOf : (Data → Type 0) → Data → Type 0
IsSomeOf Is value = (first : Data) × (others : Items) × (as_array value ≡ Some (item first others)) × Is first × AreAll Is others

abbrev pub IsEmptyList : Data → Type 0
IsEmptyList value = as_array value ≡ Some no_items

-- `In` and `NotIn` have values
pub record AsksOfValues (value : Data) : Type 0 where
  pub operator : Has (codes "operator") (IsText (IsEither (codes "In") (codes "NotIn"))) value
  pub values : Has (codes "values") (IsSomeOf (IsText IsLabelValue)) value

-- `Exists` and `DoesNotExist` have none
pub record AsksOfKey (value : Data) : Type 0 where
  pub operator : Has (codes "operator") (IsText (IsEither (codes "Exists") (codes "DoesNotExist"))) value
  pub values : MayHave (codes "values") IsEmptyList value

pub record IsValidExpression (value : Data) : Type 0 where
  pub object : IsObject value
  pub key : Has (codes "key") (IsText IsLabelKey) value
  pub asks : AsksOfValues value ⊎ AsksOfKey value

abbrev pub IsSelectorMember : List ℕ → Data → Type 0
IsSelectorMember key value = IsEither (codes "matchLabels") (codes "matchExpressions") key

pub record IsValidSelector (value : Data) : Type 0 where
  pub members : IsMapOf IsSelectorMember value
  pub labels : MayHave (codes "matchLabels") (IsMapOf IsLabel) value
  pub expressions : MayHave (codes "matchExpressions") (IsListOf IsValidExpression) value

-- ---- peers

-- a text that writes a block
abbrev pub IsCidrOf : Cidr → List ℕ → Type 0
IsCidrOf block text = IsCidrText text block

-- a text that writes a block which begins in another, and has a longer prefix
pub record IsExcept (block : Cidr) (text : List ℕ) : Type 0 where
  pub except : Cidr
  pub writes : IsCidrText text except
  pub begins : cidr_has block (base_of except) ≡ true
  pub longer : bits_of block < bits_of except

pub record IsValidBlock (value : Data) : Type 0 where
  pub object : IsObject value
  pub block : Cidr
  pub cidr : Has (codes "cidr") (IsText (IsCidrOf block)) value
  pub excepts : MayHave (codes "except") (IsListOf (IsText (IsExcept block))) value

-- where `ipBlock` is there, neither of the others is
pub record IsBlockPeer (value : Data) : Type 0 where
  pub block : Has (codes "ipBlock") IsValidBlock value
  pub pods : member_of (codes "podSelector") value ≡ None
  pub namespaces : member_of (codes "namespaceSelector") value ≡ None

-- one selector is there, or both
pub record IsPodsPeer (value : Data) : Type 0 where
  pub pods : MayHave (codes "podSelector") IsValidSelector value
  pub namespaces : MayHave (codes "namespaceSelector") IsValidSelector value
  pub some : Has (codes "podSelector") IsValidSelector value ⊎ Has (codes "namespaceSelector") IsValidSelector value
  pub no_block : member_of (codes "ipBlock") value ≡ None

pub record IsValidPeer (value : Data) : Type 0 where
  pub object : IsObject value
  pub peer : IsBlockPeer value ⊎ IsPodsPeer value

-- ---- ports

pub data IsProtocol (text : List ℕ) : Type 0 where
  tcp : text ≡ codes "TCP" → IsProtocol text
  udp : text ≡ codes "UDP" → IsProtocol text
  sctp : text ≡ codes "SCTP" → IsProtocol text

-- a port of this number
pub record IsPort (number : ℕ) (value : Data) : Type 0 where
  pub whole : as_whole value ≡ Some (pos number)
  pub least : 1 ≤ number
  pub most : number ≤ 65535

-- a port of some number
abbrev pub IsSomePort : Data → Type 0
IsSomePort value = (n : ℕ) × IsPort n value

abbrev pub is_lower_letter : ℕ → Bool
is_lower_letter byte = nat_le 97 byte && nat_le byte 122

-- the name of a container port: letters in lower case, of which there is one, digits and `-`
pub record IsPortName (text : List ℕ) : Type 0 where
  pub some : 1 ≤ length text
  pub short : length text ≤ 15
  pub bytes : list_all is_label_byte text ≡ true
  pub letter : list_any is_lower_letter text ≡ true

-- a number as `port`, with an `endPort` that is not below it, where that is there
pub record IsNumbered (value : Data) : Type 0 where
  pub first : ℕ
  pub port : Has (codes "port") (IsPort first) value
  pub last : MayHave (codes "endPort") (λ found. (last : ℕ) × IsPort last found × (first ≤ last)) value

-- the name of a port as `port`, without `endPort`
pub record IsCalled (value : Data) : Type 0 where
  pub port : Has (codes "port") (IsText IsPortName) value
  pub no_last : member_of (codes "endPort") value ≡ None

-- neither, which stands for all ports
pub record IsOpen (value : Data) : Type 0 where
  pub no_port : member_of (codes "port") value ≡ None
  pub no_last : member_of (codes "endPort") value ≡ None

pub record IsValidPort (value : Data) : Type 0 where
  pub object : IsObject value
  pub protocol : MayHave (codes "protocol") (IsText IsProtocol) value
  pub ports : IsNumbered value ⊎ (IsCalled value ⊎ IsOpen value)

-- ---- policies

-- an entry of `ingress` or `egress`, of which one member lists peers
pub record IsValidRule (peers_name : List ℕ) (value : Data) : Type 0 where
  pub object : IsObject value
  pub peers : MayHave peers_name (IsListOf IsValidPeer) value
  pub ports : MayHave (codes "ports") (IsListOf IsValidPort) value

pub record IsValidNetSpec (value : Data) : Type 0 where
  pub object : IsObject value
  pub subject : MayHave (codes "podSelector") IsValidSelector value
  pub types : MayHave (codes "policyTypes") (IsListOf (IsText (IsEither (codes "Ingress") (codes "Egress")))) value
  pub ingress : MayHave (codes "ingress") (IsListOf (IsValidRule (codes "from"))) value
  pub egress : MayHave (codes "egress") (IsListOf (IsValidRule (codes "to"))) value

-- the name and the namespace of an object that is in one
pub record IsOwnMeta (value : Data) : Type 0 where
  pub object : IsObject value
  pub name : Has (codes "name") (IsText IsSubdomain) value
  pub namespace : MayHave (codes "namespace") (IsText IsDnsLabel) value

pub record IsValidNetPolicy (value : Data) : Type 0 where
  pub type : IsTyped (codes "networking.k8s.io/v1") (codes "NetworkPolicy") value
  pub metadata : Has (codes "metadata") IsOwnMeta value
  pub spec : MayHave (codes "spec") IsValidNetSpec value
