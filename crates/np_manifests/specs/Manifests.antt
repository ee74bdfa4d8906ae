-- NetworkPolicies as JSON (Kubernetes API reference, NetworkPolicy). The members of each object stand in the order of
-- their names.
use Rattle.std.specs.Prelude.{ℕ, List, [], ◌∷◌, ◌++◌, map, Bool, ◌==◌, if◌then◌else◌, is_some, Option, option_map, codes}
use Rattle.serde_json.specs.Data.{Data, number, string, unsigned}
use Rattle.np_written.specs.Values.{object_with, list_with}
use Rattle.np_addr.specs.Prelude.{cidr_text}
use Rattle.np_manifests.specs.Types.{Absent, Block, Cidr, Direction, Egress, Ingress, Named, NetPeer, NetPolicy, NetPort, NetRule, NoneOf, OneOf, Op, Pods, Present, Proto, Requirement, Selector, Span}
use Rattle.np_conns.specs.Prelude.{proto_name}
use Rattle.np_manifests.specs.Members.{if_given, if_some}

-- ---- selectors

-- the name of what a requirement asks
abbrev pub operator : Op → List ℕ
operator OneOf = codes "In"
operator NoneOf = codes "NotIn"
operator Present = codes "Exists"
operator Absent = codes "DoesNotExist"

-- a requirement, with its values where it has some
abbrev pub expression_data : Requirement → Data
expression_data one = object_with ((codes "key", string one.key) ∷ (codes "operator", string (operator one.op)) ∷ if_some (codes "values") (map string one.values))

-- a selector, with its requirements where it has some
abbrev pub selector_data : Selector → Data
selector_data one = object_with (if_some (codes "matchExpressions") (map expression_data one.requirements))

-- ---- ports

-- a run of one port has no `endPort`
abbrev pub end_member : ℕ → ℕ → List (List ℕ × Data)
end_member lo hi = if lo == hi then [] else (codes "endPort", number (unsigned hi)) ∷ []

-- a run of ports
abbrev pub span : Proto → ℕ → ℕ → Data
span proto lo hi = object_with (end_member lo hi ++ (codes "port", number (unsigned lo)) ∷ (codes "protocol", string (proto_name proto)) ∷ [])

abbrev pub port_data : NetPort → Data
port_data (Span proto lo hi) = span proto lo hi
port_data (Named proto name) = object_with ((codes "port", string name) ∷ (codes "protocol", string (proto_name proto)) ∷ [])

-- ---- peers

abbrev pub block_data : Cidr → Data
block_data cidr = string (cidr_text cidr)

-- a block, with its exceptions where it has some
abbrev pub ip_block_data : Cidr → List Cidr → Data
ip_block_data cidr excepts = object_with ((codes "cidr", block_data cidr) ∷ if_some (codes "except") (map block_data excepts))

-- pods, with each selector that is there
abbrev pub pods : Option Selector → Option Selector → Data
pods of_namespaces of_pods = object_with (if_given (codes "namespaceSelector") (option_map selector_data of_namespaces) ++ if_given (codes "podSelector") (option_map selector_data of_pods))

abbrev pub peer : NetPeer → Data
peer (Pods of_namespaces of_pods) = pods of_namespaces of_pods
peer (Block cidr excepts) = object_with ((codes "ipBlock", ip_block_data cidr excepts) ∷ [])

-- ---- rules

-- a rule, with its peers and its ports where it has some
abbrev pub rule_data : Direction → NetRule → Data
rule_data Ingress one = object_with (if_some (codes "from") (map peer one.peers) ++ if_some (codes "ports") (map port_data one.ports))
rule_data Egress one = object_with (if_some (codes "ports") (map port_data one.ports) ++ if_some (codes "to") (map peer one.peers))

abbrev pub rules : Direction → List NetRule → Data
rules direction all = list_with (map (rule_data direction) all)

-- ---- policies

abbrev pub type_if : Bool → List ℕ → List Data
type_if has name = if has then string name ∷ [] else []

-- the types of a policy: the directions that it has
abbrev pub types : NetPolicy → Data
types one = list_with (type_if (is_some one.ingress) (codes "Ingress") ++ type_if (is_some one.egress) (codes "Egress"))

-- the rules of each direction that it has, whom it selects, and its types
abbrev pub spec : NetPolicy → Data
spec one = object_with (
    if_given (codes "egress") (option_map (rules Egress) one.egress) ++ if_given (codes "ingress") (option_map (rules Ingress) one.ingress)
    ++ (codes "podSelector", selector_data one.subject) ∷ (codes "policyTypes", types one) ∷ [])

abbrev pub metadata : NetPolicy → Data
metadata one = object_with ((codes "name", string one.name) ∷ (codes "namespace", string one.namespace) ∷ [])

-- the object of some metadata and a spec
abbrev pub object_data : Data → Data → Data
object_data of_metadata of_spec = object_with (
    (codes "apiVersion", string (codes "networking.k8s.io/v1")) ∷ (codes "kind", string (codes "NetworkPolicy"))
    ∷ (codes "metadata", of_metadata) ∷ (codes "spec", of_spec) ∷ [])

abbrev pub policy : NetPolicy → Data
policy one = object_data (metadata one) (spec one)
