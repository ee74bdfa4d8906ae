-- Valid AdminNetworkPolicies and baselines are read. For `valid_admin_policies_are_read` and `valid_baselines_are_read`.
use Rattle.std.proofs.Common.{◌≡◌, ◌⊎◌, ℕ, List, [], ◌∷◌, true, Some, Ok, codes, refl, inl, inr}
use Rattle.std.proofs.lemmas.Bool.{le-leb, le-ltb}
use Rattle.serde_json.specs.Data.{Data}
use Rattle.np_json.specs.Prelude.{has_one_of, listed, must_be_object, name, port, refuse_if, refuse_member_if, required, text, under}
use Rattle.np_meaning.proofs.ValidNames.{name-reads, subdomain-name, type-read}
use Rattle.np_meaning.proofs.ValidPeers.{cidr-read}
use Rattle.np_meaning.proofs.ValidPorts.{port-read, port_name-read, protocol_at-reads, some_port-reads}
use Rattle.np_meaning.proofs.ValidReads.{Reads, bind-reads, ends-reads, listed-reads, not_none, object-reads, required-reads, some-reads, then-reads, there-read}
use Rattle.np_meaning.proofs.ValidSelectors.{selector-reads}
use Rattle.np_meaning.specs.Types.{AdminKind, AdminPolicy, Allow, BasePolicy, Deny, Direction, Egress, Ingress, Networks, Pass, Pods}
use Rattle.np_meaning.specs.ValidAdmin.{AreValidRules, HasNamedPort, HasPortNumber, HasPortRange, IsAdminAction, IsBaselineAction, IsBlockText, IsCalledMeta, IsNamespacedPod, IsOfEither, IsOfNamespaces, IsOfNetworks, IsOfPods, IsOnePort, IsPortRange, IsPriority, IsValidAdminPolicy, IsValidAdminPort, IsValidAdminRule, IsValidAdminSpec, IsValidBasePolicy, IsValidEgressPeer, IsValidSubject}
use Rattle.np_meaning.specs.ValidMembers.{Has, IsSubdomain, IsText, IsThe}
use Rattle.np_meaning.specs.ValidPolicies.{IsPortName, IsSomeOf, IsSomePort, IsValidSelector}
use Rattle.np_policies.specs.Prelude.{action, admin_peer, admin_peers, admin_policy, admin_port, admin_rule, admin_rules, admin_spec, all_pods, base_name, base_policy, base_spec, cidr, egress_member, egress_peer, ingress_peer, named_port, namespace_selector, networks, object_name, one_port, peers_member, pods_member, policy_by, policy_of, port_range, priority, protocol, selector, some_pods, subject}
use Rattle.np_model.specs.declared.admin_policy.AdminPort.TheVariants as entry
use Rattle.np_policies.specs.declared.admin_rule_shape.AdminKind.TheVariants as tier
use Rattle.np_policies.specs.declared.policy.Policy.TheVariants as policy

-- ---- subjects

all_pods-reads : (value : Data) → IsValidSelector value → Reads (all_pods value)
unfolding all_pods
all_pods-reads value is = bind-reads (selector value) _ (selector-reads value is) (λ made read. ends-reads _)

some_pods-reads : (value : Data) → IsNamespacedPod value → Reads (some_pods value)
unfolding some_pods namespace_selector
some_pods-reads value is =
    then-reads (must_be_object value) _ (object-reads value is.object)
    (bind-reads (required (codes "namespaceSelector") selector value) _ (required-reads selector IsValidSelector selector-reads (codes "namespaceSelector") value is.namespaces) (λ spaces read.
    bind-reads (required (codes "podSelector") selector value) _ (required-reads selector IsValidSelector selector-reads (codes "podSelector") value is.pods) (λ made read. ends-reads _)))

pods_member-reads : (value : Data) → IsOfNamespaces value ⊎ IsOfPods value → Reads (pods_member value)
pods_member-reads value (inl is) =
    let read = required-reads all_pods IsValidSelector all_pods-reads (codes "namespaces") value is.namespaces in
    (read.0, rw is.namespaces.1 read.1)
pods_member-reads value (inr is) =
    let read = required-reads some_pods IsNamespacedPod some_pods-reads (codes "pods") value is.pods in
    (read.0, rw is.no_namespaces read.1)

-- exactly one of the two members is there
one_of-pods : (value : Data) → IsOfNamespaces value ⊎ IsOfPods value → has_one_of (codes "namespaces" ∷ codes "pods" ∷ []) value ≡ true
one_of-pods value (inl is) = rw (is.namespaces.1, is.no_pods) refl
one_of-pods value (inr is) = rw (is.pods.1, is.no_namespaces) refl

pub subject-reads : (value : Data) → IsValidSubject value → Reads (subject value)
unfolding subject refuse_if
subject-reads value is =
    let read = pods_member-reads value is.one in
    (read.0, rw ((object-reads value is.object).1, one_of-pods value is.one, read.1) refl)

-- ---- peers

ingress_peer-reads : (value : Data) → IsValidSubject value → Reads (ingress_peer value)
unfolding ingress_peer
ingress_peer-reads value is = bind-reads (subject value) _ (subject-reads value is) (λ made read. ends-reads _)

block-reads : (value : Data) → IsText IsBlockText value → Reads (cidr value)
block-reads value is = (is.2.0, cidr-read is.2.0 value (is.0, is.1, is.2.1))

networks-reads : (value : Data) → IsOfNetworks value → Reads (networks value)
unfolding networks refuse_member_if refuse_if under
networks-reads value is =
    let read = some-reads cidr (IsText IsBlockText) block-reads (codes "networks") value is.networks in
    (Networks (read.0 ∷ read.1), rw (read.2, not_none read.0 read.1) refl)

egress_member-reads : (value : Data) → IsOfNetworks value ⊎ IsOfEither value → Reads (egress_member value)
egress_member-reads value (inl is) = let read = networks-reads value is in (read.0, rw is.networks.1 read.1)
egress_member-reads value (inr is) = let read = pods_member-reads value is.one in (Pods read.0.namespaces read.0.pods, rw (is.no_networks, read.1) refl)

one_of-egress : (value : Data) → IsOfNetworks value ⊎ IsOfEither value → has_one_of (codes "namespaces" ∷ codes "pods" ∷ codes "networks" ∷ []) value ≡ true
one_of-egress value (inl is) = rw (is.networks.1, is.no_namespaces, is.no_pods) refl
one_of-egress value (inr is) = by is.one
  where
    by : IsOfNamespaces value ⊎ IsOfPods value → has_one_of (codes "namespaces" ∷ codes "pods" ∷ codes "networks" ∷ []) value ≡ true
    by (inl one) = rw (one.namespaces.1, one.no_pods, is.no_networks) refl
    by (inr one) = rw (one.pods.1, one.no_namespaces, is.no_networks) refl

egress_peer-reads : (value : Data) → IsValidEgressPeer value → Reads (egress_peer value)
unfolding egress_peer refuse_member_if refuse_if under
egress_peer-reads value is =
    let read = egress_member-reads value is.one in
    (read.0, rw ((object-reads value is.object).1, is.no_nodes, is.no_domains, one_of-egress value is.one, read.1) refl)

-- the peers of a rule of a direction
abbrev IsPeerOf : Direction → Data → Type 0
IsPeerOf Ingress value = IsValidSubject value
IsPeerOf Egress value = IsValidEgressPeer value

peer-reads : (direction : Direction) (value : Data) → IsPeerOf direction value → Reads (admin_peer direction value)
peer-reads Ingress value is = ingress_peer-reads value is
peer-reads Egress value is = egress_peer-reads value is

peers-reads : (direction : Direction) (value : Data) → Has (peers_member direction) (IsSomeOf (IsPeerOf direction)) value → Reads (admin_peers direction value)
unfolding admin_peers refuse_member_if refuse_if under
peers-reads direction value has =
    let read = some-reads (admin_peer direction) (IsPeerOf direction) (peer-reads direction) (peers_member direction) value has in
    (read.0 ∷ read.1, rw (read.2, not_none read.0 read.1) refl)

-- ---- ports

one_port-reads : (value : Data) → IsOnePort value → Reads (one_port value)
unfolding one_port
one_port-reads value is =
    then-reads (must_be_object value) _ (object-reads value is.object)
    (bind-reads (protocol value) _ (protocol_at-reads value is.protocol) (λ named read.
    bind-reads (required (codes "port") port value) _ (required-reads port IsSomePort some_port-reads (codes "port") value is.port) (λ number read. ends-reads _)))

range-reads : (value : Data) → IsPortRange value → Reads (port_range value)
unfolding port_range refuse_member_if refuse_if under
range-reads value is =
    let named = protocol_at-reads value is.protocol in
    let first = there-read port (codes "start") value is.start.0 is.first is.start.1 (port-read is.first is.start.0 is.start.2) in
    let last = there-read port (codes "end") value is.end.0 is.last is.end.1 (port-read is.last is.end.0 is.end.2) in
    (entry.Span named.0 is.first is.last, rw ((object-reads value is.object).1, named.1, first, last, le-ltb is.last is.first is.order) refl)

named_port-reads : (value : Data) → IsText IsPortName value → Reads (named_port value)
unfolding named_port
named_port-reads value is = (entry.Named is.0, rw (port_name-read value is) refl)

admin_port-reads : (value : Data) → IsValidAdminPort value → Reads (admin_port value)
unfolding admin_port refuse_if
admin_port-reads value is = by is.one
  where
    by : HasPortNumber value ⊎ (HasPortRange value ⊎ HasNamedPort value) → Reads (admin_port value)
    by (inl one) =
        let read = required-reads one_port IsOnePort one_port-reads (codes "portNumber") value one.port in
        let only : has_one_of (codes "portNumber" ∷ codes "portRange" ∷ codes "namedPort" ∷ []) value ≡ true = rw (one.port.1, one.no_range, one.no_name) refl in
        (read.0, rw ((object-reads value is.object).1, only, one.port.1, read.1) refl)
    by (inr (inl one)) =
        let read = required-reads port_range IsPortRange range-reads (codes "portRange") value one.range in
        let only : has_one_of (codes "portNumber" ∷ codes "portRange" ∷ codes "namedPort" ∷ []) value ≡ true = rw (one.range.1, one.no_number, one.no_name) refl in
        (read.0, rw ((object-reads value is.object).1, only, one.no_number, one.range.1, read.1) refl)
    by (inr (inr one)) =
        let read = required-reads named_port (IsText IsPortName) named_port-reads (codes "namedPort") value one.name in
        let only : has_one_of (codes "portNumber" ∷ codes "portRange" ∷ codes "namedPort" ∷ []) value ≡ true = rw (one.name.1, one.no_number, one.no_range) refl in
        (read.0, rw ((object-reads value is.object).1, only, one.no_number, one.no_range, read.1) refl)

-- ---- rules

-- what the actions of a tier are
abbrev IsActionOf : AdminKind → List ℕ → Type 0
IsActionOf tier.Admin text = IsAdminAction text
IsActionOf tier.Baseline text = IsBaselineAction text

action-reads : (kind : AdminKind) (value : Data) → IsText (IsActionOf kind) value → Reads (action kind value)
unfolding action
action-reads tier.Admin value is = by is.2
  where
    by : IsAdminAction is.0 → Reads (action tier.Admin value)
    by (inl same) = (Pass, rw (is.1, same) refl)
    by (inr (inl same)) = (Allow, rw (is.1, same) refl)
    by (inr (inr same)) = (Deny, rw (is.1, same) refl)
action-reads tier.Baseline value is = by is.2
  where
    by : IsBaselineAction is.0 → Reads (action tier.Baseline value)
    by (inl same) = (Allow, rw (is.1, same) refl)
    by (inr same) = (Deny, rw (is.1, same) refl)

rule-reads : (kind : AdminKind) (direction : Direction) (value : Data) → IsValidAdminRule (IsActionOf kind) (peers_member direction) (IsPeerOf direction) value
    → Reads (admin_rule kind direction value)
unfolding admin_rule
rule-reads kind direction value is =
    then-reads (must_be_object value) _ (object-reads value is.object)
    (bind-reads (required (codes "action") (action kind) value) _ (required-reads (action kind) (IsText (IsActionOf kind)) (action-reads kind) (codes "action") value is.action) (λ effect read.
    bind-reads (admin_peers direction value) _ (peers-reads direction value is.peers) (λ peers read.
    bind-reads (listed (codes "ports") admin_port value) _ (listed-reads admin_port IsValidAdminPort admin_port-reads (codes "ports") value is.ports) (λ ports read. ends-reads _))))

ingress-reads : (kind : AdminKind) (value : Data) → AreValidRules (IsActionOf kind) value → Reads (admin_rules kind Ingress value)
unfolding admin_rules
ingress-reads kind value is =
    listed-reads (admin_rule kind Ingress) (IsValidAdminRule (IsActionOf kind) (codes "from") IsValidSubject) (rule-reads kind Ingress) (codes "ingress") value is.ingress

egress-reads : (kind : AdminKind) (value : Data) → AreValidRules (IsActionOf kind) value → Reads (admin_rules kind Egress value)
unfolding admin_rules
egress-reads kind value is =
    listed-reads (admin_rule kind Egress) (IsValidAdminRule (IsActionOf kind) (codes "to") IsValidEgressPeer) (rule-reads kind Egress) (codes "egress") value is.egress

-- ---- policies

priority-reads : (value : Data) → IsPriority value → Reads (priority value)
unfolding priority
priority-reads value is = (is.0, rw (is.1, le-leb is.0 1000 is.2) refl)

admin_spec-reads : (value : Data) → IsValidAdminSpec value → Reads (admin_spec value)
unfolding admin_spec
admin_spec-reads value is =
    then-reads (must_be_object value) _ (object-reads value is.rules.object)
    (bind-reads (required (codes "priority") priority value) _ (required-reads priority IsPriority priority-reads (codes "priority") value is.priority) (λ rank read.
    bind-reads (required (codes "subject") subject value) _ (required-reads subject IsValidSubject subject-reads (codes "subject") value is.rules.subject) (λ selected read.
    bind-reads (admin_rules tier.Admin Ingress value) _ (ingress-reads tier.Admin value is.rules) (λ ingress read.
    bind-reads (admin_rules tier.Admin Egress value) _ (egress-reads tier.Admin value is.rules) (λ egress read. ends-reads _)))))

base_spec-reads : (value : Data) → AreValidRules IsBaselineAction value → Reads (base_spec value)
unfolding base_spec
base_spec-reads value is =
    then-reads (must_be_object value) _ (object-reads value is.object)
    (bind-reads (required (codes "subject") subject value) _ (required-reads subject IsValidSubject subject-reads (codes "subject") value is.subject) (λ selected read.
    bind-reads (admin_rules tier.Baseline Ingress value) _ (ingress-reads tier.Baseline value is) (λ ingress read.
    bind-reads (admin_rules tier.Baseline Egress value) _ (egress-reads tier.Baseline value is) (λ egress read. ends-reads _))))

name-of : (value : Data) → IsCalledMeta IsSubdomain value → Reads (object_name value)
unfolding object_name
name-of value is = then-reads (must_be_object value) _ (object-reads value is.object) (required-reads name (IsText IsSubdomain) (name-reads IsSubdomain subdomain-name) (codes "name") value is.name)

base_name-of : (value : Data) → IsCalledMeta (IsThe (codes "default")) value → Reads (base_name value)
unfolding base_name object_name name refuse_member_if refuse_if under
base_name-of value is =
    let called = there-read name (codes "name") value is.name.0 (codes "default") is.name.1 (default-read is.name.0 is.name.2) in
    (codes "default", rw ((object-reads value is.object).1, called) refl)
  where
    default-read : (found : Data) → IsText (IsThe (codes "default")) found → name found ≡ Ok (codes "default")
    default-read found text = rw (text.1, text.2) refl

pub admin-valid : (value : Data) → IsValidAdminPolicy value → (read : AdminPolicy) × (policy_of value ≡ Ok (Some (policy.Admin read)))
unfolding policy_of policy_by admin_policy
admin-valid value is =
    let called = required-reads object_name (IsCalledMeta IsSubdomain) name-of (codes "metadata") value is.metadata in
    let spec = required-reads admin_spec IsValidAdminSpec admin_spec-reads (codes "spec") value is.spec in (
      record { name = called.0; priority = spec.0.priority; subject = spec.0.subject; ingress = spec.0.ingress; egress = spec.0.egress },
      rw (type-read (codes "policy.networking.k8s.io/v1alpha1") (codes "AdminNetworkPolicy") value is.type, called.1, spec.1) refl,
    )

pub baseline-valid : (value : Data) → IsValidBasePolicy value → (read : BasePolicy) × (policy_of value ≡ Ok (Some (policy.Base read)))
unfolding policy_of policy_by base_policy
baseline-valid value is =
    let called = required-reads base_name (IsCalledMeta (IsThe (codes "default"))) base_name-of (codes "metadata") value is.metadata in
    let spec = required-reads base_spec (AreValidRules IsBaselineAction) base_spec-reads (codes "spec") value is.spec in
    (spec.0, rw (type-read (codes "policy.networking.k8s.io/v1alpha1") (codes "BaselineAdminNetworkPolicy") value is.type, called.1, spec.1) refl)
