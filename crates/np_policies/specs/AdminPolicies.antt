-- Shapes of AdminNetworkPolicy and BaselineAdminNetworkPolicy of `policy.networking.k8s.io/v1alpha1`
-- (network-policy-api reference).
use Rattle.std.specs.Prelude.{ℕ, ℤ, pos, negsuc, List, [], ◌∷◌, length, not, ◌==◌, nat_le, if◌then◌else◌, Option, codes, Ok}
use Rattle.std.specs.Map.{lookup}
use Rattle.std.specs.Str.{bytes_eq}
use Rattle.serde_json.specs.Data.{Data}
use Rattle.np_json.specs.Prelude.{Read, has_member, has_one_of, listed, must_be_object, name, or_refuse, refuse, refuse_if, refuse_member_if, required, text, whole, ◌>>=◌, ◌>>◌}
use Rattle.np_policies.specs.Types.{Action, AdminPeer, AdminPolicy, AdminRule, AdminSpec, Allow, BadAction, BadPriority, BaselineName, BasePolicy, Deny, Direction, DomainPeer, Egress, EmptyPeers, Ingress, Networks, NodePeer, Pass, PeerShape, Pods, Selector, Subject, AdminKind}
use Rattle.np_policies.specs.Blocks.{cidr}
use Rattle.np_policies.specs.NetworkPolicies.{peers_member}
use Rattle.np_policies.specs.Ports.{admin_port}
use Rattle.np_policies.specs.Selectors.{selector, everything}
use Rattle.np_policies.specs.declared.admin_rule_shape.AdminKind.TheVariants.{Admin, Baseline}
use Rattle.np_model.specs.Prelude.{direction_text}

-- `namespaces` of a subject or peer: all pods of the namespaces that it selects
unfoldable pub all_pods : Data → Read Subject
all_pods value = do Ok (record { namespaces = (← selector value); pods = everything })

-- the namespaces of `pods`
unfoldable pub namespace_selector : Data → Read Selector
namespace_selector value = required (codes "namespaceSelector") selector value

-- `pods` of a subject or peer
unfoldable pub some_pods : Data → Read Subject
some_pods value = must_be_object value >> do
  Ok (record { namespaces = (← namespace_selector value); pods = (← required (codes "podSelector") selector value) })

-- the one member of the two that is there
abbrev pub pods_member : Data → Read Subject
pods_member value = if has_member (codes "namespaces") value then required (codes "namespaces") all_pods value
    else required (codes "pods") some_pods value

-- `subject`
unfoldable pub subject : Data → Read Subject
subject value = must_be_object value >> do
  refuse_if (not (has_one_of (codes "namespaces" ∷ codes "pods" ∷ []) value)) PeerShape
  pods_member value

-- an entry of `from`
unfoldable pub ingress_peer : Data → Read AdminPeer
ingress_peer value = subject value >>= λ peer. Ok (Pods peer.namespaces peer.pods)

-- `networks` of a peer: at least one block
unfoldable pub networks : Data → Read AdminPeer
networks value = do
  cidrs ← listed (codes "networks") cidr value
  refuse_member_if (codes "networks") (length cidrs == 0) EmptyPeers
  Ok (Networks cidrs)

-- the one member of the three that is there
abbrev pub egress_member : Data → Read AdminPeer
egress_member value = if has_member (codes "networks") value then networks value
    else (pods_member value >>= λ peer. Ok (Pods peer.namespaces peer.pods))

-- an entry of `to`
unfoldable pub egress_peer : Data → Read AdminPeer
egress_peer value = must_be_object value >> do
  refuse_member_if (codes "nodes") (has_member (codes "nodes") value) NodePeer
  refuse_member_if (codes "domainNames") (has_member (codes "domainNames") value) DomainPeer
  refuse_if (not (has_one_of (codes "namespaces" ∷ codes "pods" ∷ codes "networks" ∷ []) value)) PeerShape
  egress_member value

abbrev pub admin_peer : Direction → Data → Read AdminPeer
admin_peer Ingress value = ingress_peer value
admin_peer Egress value = egress_peer value

-- the peers of a rule: at least one
unfoldable pub admin_peers : Direction → Data → Read (List AdminPeer)
admin_peers direction value = do
  peers ← listed (peers_member direction) (admin_peer direction) value
  refuse_member_if (peers_member direction) (length peers == 0) EmptyPeers
  Ok peers

-- what an action does; a baseline passes nothing on
abbrev pub action_named : AdminKind → List ℕ → Option Action
action_named Admin s = lookup (bytes_eq s) ((codes "Allow", Allow) ∷ (codes "Deny", Deny) ∷ (codes "Pass", Pass) ∷ [])
action_named Baseline s = lookup (bytes_eq s) ((codes "Allow", Allow) ∷ (codes "Deny", Deny) ∷ [])

-- `action` of a rule: one that the policy may have, else BadAction
unfoldable pub action : AdminKind → Data → Read Action
action tier value = do or_refuse BadAction (action_named tier (← text value))

-- an entry of `ingress` or `egress`
unfoldable pub admin_rule : AdminKind → Direction → Data → Read AdminRule
admin_rule tier direction value = must_be_object value >> do
  effect ← required (codes "action") (action tier) value
  Ok (record { action = effect; peers = (← admin_peers direction value); ports = (← listed (codes "ports") admin_port value) })

-- the rules of a direction
unfoldable pub admin_rules : AdminKind → Direction → Data → Read (List AdminRule)
admin_rules tier direction value = listed (direction_text direction) (admin_rule tier direction) value

-- a priority from 0 to 1000, else BadPriority
abbrev pub priority_number : ℤ → Read ℕ
priority_number (pos n) = if nat_le n 1000 then Ok n else refuse BadPriority
priority_number (negsuc n) = refuse BadPriority

-- `priority` of an AdminNetworkPolicy
unfoldable pub priority : Data → Read ℕ
priority value = whole value >>= priority_number

-- `metadata` of an object in no namespace
unfoldable pub object_name : Data → Read (List ℕ)
object_name value = must_be_object value >> required (codes "name") name value

-- `metadata` of a BaselineAdminNetworkPolicy, which is named `default`
unfoldable pub base_name : Data → Read (List ℕ)
base_name value = do
  s ← object_name value
  refuse_member_if (codes "name") (not (bytes_eq s (codes "default"))) BaselineName
  Ok s

-- `spec` of an AdminNetworkPolicy
unfoldable pub admin_spec : Data → Read AdminSpec
admin_spec value = must_be_object value >> do
  rank ← required (codes "priority") priority value
  selected ← required (codes "subject") subject value
  Ok (record { priority = rank; subject = selected; ingress = (← admin_rules Admin Ingress value); egress = (← admin_rules Admin Egress value) })

-- an AdminNetworkPolicy
unfoldable pub admin_policy : Data → Read AdminPolicy
admin_policy value = do
  s ← required (codes "metadata") object_name value
  spec ← required (codes "spec") admin_spec value
  Ok (record { name = s; priority = spec.priority; subject = spec.subject; ingress = spec.ingress; egress = spec.egress })

-- `spec` of a BaselineAdminNetworkPolicy
unfoldable pub base_spec : Data → Read BasePolicy
base_spec value = must_be_object value >> do
  selected ← required (codes "subject") subject value
  Ok (record { subject = selected; ingress = (← admin_rules Baseline Ingress value); egress = (← admin_rules Baseline Egress value) })

-- a BaselineAdminNetworkPolicy
unfoldable pub base_policy : Data → Read BasePolicy
base_policy value = required (codes "metadata") base_name value >> required (codes "spec") base_spec value
