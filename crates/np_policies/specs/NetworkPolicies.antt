-- Shapes of NetworkPolicy of `networking.k8s.io/v1` (Kubernetes API reference, NetworkPolicy).
use Rattle.std.specs.Prelude.{ℕ, List, [], ◌∷◌, length, Bool, true, false, not, ◌||◌, ◌==◌, if◌then◌else◌, Option, Some, None, unwrap_or, codes, Ok}
use Rattle.std.specs.List.{list_any}
use Rattle.std.specs.Map.{lookup}
use Rattle.std.specs.Str.{bytes_eq}
use Rattle.serde_json.specs.Data.{Data}
use Rattle.np_json.specs.Prelude.{Read, has_member, listed, must_be_object, namespaced_name, of_type, optional, refuse_if, required, text, ◌>>=◌, ◌>>◌}
use Rattle.np_policies.specs.Types.{Block, Direction, Egress, Ingress, IpBlock, NamespacedName, NetPeer, NetPolicy, NetRule, NetSpec, PeerShape, Selector}
use Rattle.np_policies.specs.Blocks.{ip_block}
use Rattle.np_policies.specs.Ports.{net_port}
use Rattle.np_policies.specs.Selectors.{selector, everything}
use Rattle.np_model.specs.declared.network_policy.NetPeer.TheVariants.{Pods}
use Rattle.np_model.specs.Prelude.{direction_text}

-- the member of a rule that lists the other ends
abbrev pub peers_member : Direction → List ℕ
peers_member Ingress = codes "from"
peers_member Egress = codes "to"

-- whether the peer has none of its three members, or `ipBlock` with another
abbrev pub is_misshapen : Data → Bool
is_misshapen value = let has_selector = has_member (codes "podSelector") value || has_member (codes "namespaceSelector") value in
    if has_member (codes "ipBlock") value then has_selector else not has_selector

abbrev pub net_peer_by : Option Selector → Option Selector → Option IpBlock → NetPeer
net_peer_by pods namespaces None = Pods namespaces pods
net_peer_by pods namespaces (Some block) = Block block.cidr block.excepts

-- an entry of `from` or `to`
unfoldable pub net_peer : Data → Read NetPeer
net_peer value = must_be_object value >> do
  refuse_if (is_misshapen value) PeerShape
  pods ← optional (codes "podSelector") selector value
  namespaces ← optional (codes "namespaceSelector") selector value
  Ok (net_peer_by pods namespaces (← optional (codes "ipBlock") ip_block value))

-- an entry of `ingress` or `egress`
unfoldable pub net_rule : Direction → Data → Read NetRule
net_rule direction value = must_be_object value >> do
  Ok (record { peers = (← listed (peers_member direction) net_peer value); ports = (← listed (codes "ports") net_port value) })

-- the rules of a direction
unfoldable pub net_rules : Direction → Data → Read (List NetRule)
net_rules direction value = listed (direction_text direction) (net_rule direction) value

abbrev pub direction_named : List ℕ → Option Direction
direction_named s = lookup (bytes_eq s) ((codes "Ingress", Ingress) ∷ (codes "Egress", Egress) ∷ [])

-- an entry of `policyTypes`, else BadField
unfoldable pub policy_type : Data → Read Direction
policy_type value = do of_type (direction_named (← text value))

-- `spec` of a NetworkPolicy
unfoldable pub net_spec : Data → Read NetSpec
net_spec value = must_be_object value >> do
  subject ← optional (codes "podSelector") selector value
  types ← listed (codes "policyTypes") policy_type value
  Ok (record { subject = unwrap_or subject everything; types = types; ingress = (← net_rules Ingress value); egress = (← net_rules Egress value) })

-- the spec of no members
abbrev pub empty_spec : NetSpec
empty_spec = record { subject = everything; types = []; ingress = []; egress = [] }

abbrev pub is_same_direction : Direction → Direction → Bool
is_same_direction Ingress Ingress = true
is_same_direction Egress Egress = true
is_same_direction one other = false

-- whether a policy that lists no types has the direction: Egress only where it has a rule
abbrev pub has_by_default : Direction → List NetRule → Bool
has_by_default Ingress egress = true
has_by_default Egress egress = not (length egress == 0)

-- whether the direction is among the types of the policy
abbrev pub has_direction : NetSpec → Direction → Bool
has_direction spec direction = if length spec.types == 0 then has_by_default direction spec.egress
    else list_any (λ listed. is_same_direction listed direction) spec.types

-- the rules of a direction, if it is among the types
abbrev pub rules_if : Bool → List NetRule → Option (List NetRule)
rules_if has rules = if has then Some rules else None

unfoldable pub net_policy_by : NamespacedName → NetSpec → NetPolicy
net_policy_by meta spec = record {
  namespace = meta.namespace;
  name = meta.name;
  subject = spec.subject;
  ingress = rules_if (has_direction spec Ingress) spec.ingress;
  egress = rules_if (has_direction spec Egress) spec.egress;
}

-- a NetworkPolicy
unfoldable pub net_policy : Data → Read NetPolicy
net_policy value = do
  meta ← required (codes "metadata") namespaced_name value
  Ok (net_policy_by meta (unwrap_or (← optional (codes "spec") net_spec value) empty_spec))
