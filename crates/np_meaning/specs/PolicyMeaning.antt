-- What the members of a NetworkPolicy in JSON say (Kubernetes API reference, NetworkPolicySpec, NetworkPolicyPeer, IPBlock
-- and NetworkPolicyPort).
use Rattle.std.specs.Prelude.{◌≡◌, ℕ, List, [], ◌∷◌, map, Bool, true, false, not, if◌then◌else◌, Option, Some, None, option_and_then, codes, Ok, ⊤, IfSome}
use Rattle.serde_json.specs.Data.{Data, Items, no_items, item}
use Rattle.serde_json.specs.Find.{as_str}
use Rattle.np_addr.specs.Prelude.{cidr_of}
use Rattle.np_meaning.specs.MemberMeaning.{IsOfKind, named_or_default, object_at, spec_of, text_at}
use Rattle.np_meaning.specs.Types.{Cidr, NetPolicy, NetRule}
use Rattle.np_json.specs.Prelude.{Read}
use Rattle.np_policies.specs.Prelude.{items_at, net_peer, net_port, selector}
use Rattle.np_meaning.specs.SelectorMeaning.{any_item, is_text}

-- ---- lists and names

-- the items are each what the relation says of the output at its place, in order, and there are as many
abbrev pub AreEach : {A : Type 0} → (Data → A → Type 0) → Items → List A → Type 0
AreEach Is no_items [] = ⊤
AreEach Is no_items (output ∷ outputs) = ⊥
AreEach Is (item value items) [] = ⊥
AreEach Is (item value items) (output ∷ outputs) = Is value output × AreEach Is items outputs

-- what a shape reads of each item, in order
abbrev pub AreReadOf : {A : Type 0} → (Data → Read A) → Items → List A → Type 0
AreReadOf shape = AreEach (λ value output. shape value ≡ Ok output)

abbrev pub namespace_in : Data → List ℕ
namespace_in metadata = named_or_default (text_at (codes "namespace") metadata)

-- ---- types

abbrev pub is_empty : Items → Bool
is_empty no_items = true
is_empty (item value items) = false

-- whether `policyTypes` lists a type
abbrev pub lists_type : List ℕ → Data → Bool
lists_type name spec = any_item (λ value. is_text value name) (items_at (codes "policyTypes") spec)

-- whether Ingress is among the types: always where none are listed
abbrev pub has_ingress : Data → Bool
has_ingress spec =
    if is_empty (items_at (codes "policyTypes") spec) then true
    else lists_type (codes "Ingress") spec

-- whether Egress is among the types: where none are listed, if `egress` has at least one rule
abbrev pub has_egress : Data → Bool
has_egress spec =
    if is_empty (items_at (codes "policyTypes") spec) then not (is_empty (items_at (codes "egress") spec))
    else lists_type (codes "Egress") spec

-- ---- peers

-- what a shape reads of a member that may be missing: nothing exactly where it is
abbrev pub IsReadOf : {A : Type 0} → (Data → Read A) → Option Data → Option A → Type 0
IsReadOf shape None None = ⊤
IsReadOf shape None (Some output) = ⊥
IsReadOf shape (Some found) None = ⊥
IsReadOf shape (Some found) (Some output) = shape found ≡ Ok output

-- the blocks of addresses that texts write
abbrev pub blocks_of : Items → List (Option Cidr)
blocks_of no_items = []
blocks_of (item value items) = option_and_then cidr_of (as_str value) ∷ blocks_of items

-- `ipBlock` is there, with the block as its `cidr` and the exceptions as its `except`, in order
abbrev pub IsBlockOf : Option Data → Cidr → List Cidr → Type 0
IsBlockOf None cidr excepts = ⊥
IsBlockOf (Some block) cidr excepts = (cidr_of (text_at (codes "cidr") block) ≡ Some cidr) × (blocks_of (items_at (codes "except") block) ≡ map Some excepts)

-- ---- policies

-- an entry of `ingress` or `egress`: each entry of a member as a peer, and each of `ports` as a port entry, in order
abbrev pub IsNetRule : List ℕ → Data → NetRule → Type 0
IsNetRule peers value rule = AreReadOf net_peer (items_at peers value) rule.peers × AreReadOf net_port (items_at (codes "ports") value) rule.ports

-- A NetworkPolicy: its namespace and its name, the pods that `podSelector` selects, which are all where it is missing, and
-- the rules of each direction that it has, in order
pub record IsNetPolicyOf (value : Data) (policy : NetPolicy) : Type 0 where
  pub kind : IsOfKind (codes "networking.k8s.io/v1") (codes "NetworkPolicy") value
  pub namespace : namespace_in (object_at (codes "metadata") value) ≡ policy.namespace
  pub name : text_at (codes "name") (object_at (codes "metadata") value) ≡ policy.name
  pub subject : selector (object_at (codes "podSelector") (spec_of value)) ≡ Ok policy.subject
  pub ingress : IfSome policy.ingress (λ rules. AreEach (IsNetRule (codes "from")) (items_at (codes "ingress") (spec_of value)) rules)
  pub egress : IfSome policy.egress (λ rules. AreEach (IsNetRule (codes "to")) (items_at (codes "egress") (spec_of value)) rules)
