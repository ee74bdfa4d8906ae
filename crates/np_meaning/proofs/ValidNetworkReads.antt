-- A valid NetworkPolicy is read. For `valid_network_policies_are_read`.
use Rattle.std.proofs.Common.{◌≡◌, Bool, Some, Ok, codes, refl, ap, inl, inr, unwrap_or, if◌then◌else◌}
use Rattle.serde_json.specs.Data.{Data}
use Rattle.np_json.specs.Prelude.{name, namespace, namespaced_name, refuse_if}
use Rattle.np_json.specs.Meta.{or_default}
use Rattle.np_meaning.proofs.ValidNames.{label-name, name-reads, not_empty, subdomain-name, type-read}
use Rattle.np_meaning.proofs.ValidPeers.{peer-reads}
use Rattle.np_meaning.proofs.ValidPorts.{net_port-reads}
use Rattle.np_meaning.proofs.ValidReads.{Reads, listed-reads, object-reads, optional-reads, required-reads}
use Rattle.np_meaning.proofs.ValidSelectors.{selector-reads}
use Rattle.np_meaning.specs.Types.{Direction, Egress, Ingress, NetPolicy}
use Rattle.np_meaning.specs.ValidMembers.{IsDnsLabel, IsSubdomain, IsText}
use Rattle.np_meaning.specs.ValidPolicies.{IsEither, IsOwnMeta, IsValidNetPolicy, IsValidNetSpec, IsValidPeer, IsValidPort, IsValidRule, IsValidSelector}
use Rattle.np_policies.specs.Prelude.{empty_spec, everything, net_peer, net_policy, net_policy_by, net_port, net_rule, net_rules, net_spec, peers_member, policy_by, policy_of, policy_type, selector}
use Rattle.np_policies.specs.declared.policy.Policy.TheVariants as policy

-- ---- metadata

namespace-reads : (value : Data) → IsText IsDnsLabel value → Reads (namespace value)
unfolding namespace refuse_if
namespace-reads value is =
    let same : or_default is.0 ≡ is.0 = ap (λ (none : Bool). if none then codes "default" else is.0) (not_empty is.0 is.2.some) in
    (is.0, rw (is.1, same, label-name is.0 is.2) refl)

pub own-reads : (value : Data) → IsOwnMeta value → Reads (namespaced_name value)
unfolding namespaced_name
own-reads value is =
    let called = required-reads name (IsText IsSubdomain) (name-reads IsSubdomain subdomain-name) (codes "name") value is.name in
    let space = optional-reads namespace (IsText IsDnsLabel) namespace-reads (codes "namespace") value is.namespace in
    (record { namespace = unwrap_or space.0 (codes "default"); name = called.0 }, rw ((object-reads value is.object).1, called.1, space.1) refl)

-- ---- rules

rule-reads : (direction : Direction) (value : Data) → IsValidRule (peers_member direction) value → Reads (net_rule direction value)
unfolding net_rule
rule-reads direction value is =
    let peers = listed-reads net_peer IsValidPeer peer-reads (peers_member direction) value is.peers in
    let ports = listed-reads net_port IsValidPort net_port-reads (codes "ports") value is.ports in
    (record { peers = peers.0; ports = ports.0 }, rw ((object-reads value is.object).1, peers.1, ports.1) refl)

type-reads : (value : Data) → IsText (IsEither (codes "Ingress") (codes "Egress")) value → Reads (policy_type value)
unfolding policy_type
type-reads value is = by is.2
  where
    by : IsEither (codes "Ingress") (codes "Egress") is.0 → Reads (policy_type value)
    by (inl same) = (Ingress, rw (is.1, same) refl)
    by (inr same) = (Egress, rw (is.1, same) refl)

spec-reads : (value : Data) → IsValidNetSpec value → Reads (net_spec value)
unfolding net_spec net_rules
spec-reads value is =
    let subject = optional-reads selector IsValidSelector selector-reads (codes "podSelector") value is.subject in
    let types = listed-reads policy_type (IsText (IsEither (codes "Ingress") (codes "Egress"))) type-reads (codes "policyTypes") value is.types in
    let ingress = listed-reads (net_rule Ingress) (IsValidRule (codes "from")) (rule-reads Ingress) (codes "ingress") value is.ingress in
    let egress = listed-reads (net_rule Egress) (IsValidRule (codes "to")) (rule-reads Egress) (codes "egress") value is.egress in (
      record { subject = unwrap_or subject.0 everything; types = types.0; ingress = ingress.0; egress = egress.0 },
      rw ((object-reads value is.object).1, subject.1, types.1, ingress.1, egress.1) refl,
    )

pub net_policy-valid : (value : Data) → IsValidNetPolicy value → (read : NetPolicy) × (policy_of value ≡ Ok (Some (policy.Net read)))
unfolding policy_of policy_by net_policy
net_policy-valid value is =
    let own = required-reads namespaced_name IsOwnMeta own-reads (codes "metadata") value is.metadata in
    let spec = optional-reads net_spec IsValidNetSpec spec-reads (codes "spec") value is.spec in (
      net_policy_by own.0 (unwrap_or spec.0 empty_spec),
      rw (type-read (codes "networking.k8s.io/v1") (codes "NetworkPolicy") value is.type, own.1, spec.1) refl,
    )
