-- What the members of an AdminNetworkPolicy and of a BaselineAdminNetworkPolicy in JSON say (network-policy-api reference,
-- AdminNetworkPolicySpec, AdminNetworkPolicySubject, AdminNetworkPolicyIngressRule, AdminNetworkPolicyEgressRule,
-- AdminNetworkPolicyIngressPeer, AdminNetworkPolicyEgressPeer and AdminNetworkPolicyPort).
use Rattle.std.specs.Prelude.{◌≡◌, ℕ, pos, List, map, Option, Some, None, codes, Ok}
use Rattle.serde_json.specs.Data.{Data}
use Rattle.serde_json.specs.Find.{as_str}
use Rattle.np_json.specs.Prelude.{member_of}
use Rattle.np_meaning.specs.Types.{Action, AdminPeer, AdminPolicy, AdminPort, AdminRule, Allow, BasePolicy, Deny, Networks, Pass, Pods, Selector, Subject}
use Rattle.np_model.specs.declared.admin_policy.AdminPort.TheVariants.{Named, Span}
use Rattle.np_meaning.specs.PolicyMeaning.{blocks_of, AreEach, IsReadOf}
use Rattle.np_policies.specs.Prelude.{everything, items_at, selector}
use Rattle.np_meaning.specs.MemberMeaning.{number_at, object_at, protocol_of, spec_of, IsOfKind, text_at}

-- ---- subjects and peers

-- `namespaces` selects namespaces, of which all pods are meant; `pods` selects namespaces and pods; one of the two is there
abbrev pub ArePodsBy : Option Data → Option Data → Selector → Selector → Type 0
ArePodsBy None None namespaces pods = ⊥
ArePodsBy (Some spaces) None namespaces pods = (selector spaces ≡ Ok namespaces) × (pods ≡ everything)
ArePodsBy None (Some both) namespaces pods = IsReadOf selector (member_of (codes "namespaceSelector") both) (Some namespaces) × IsReadOf selector (member_of (codes "podSelector") both) (Some pods)
ArePodsBy (Some spaces) (Some both) namespaces pods = ⊥

abbrev pub ArePodsOf : Data → Selector → Selector → Type 0
ArePodsOf value = ArePodsBy (member_of (codes "namespaces") value) (member_of (codes "pods") value)

-- an entry of `from`: pods
abbrev pub IsIngressPeer : Data → AdminPeer → Type 0
IsIngressPeer value (Pods namespaces pods) = ArePodsOf value namespaces pods
IsIngressPeer value (Networks cidrs) = ⊥

-- an entry of `to`: pods, or the blocks of addresses of `networks`, in order
abbrev pub IsEgressPeer : Data → AdminPeer → Type 0
IsEgressPeer value (Pods namespaces pods) = ArePodsOf value namespaces pods × (member_of (codes "networks") value ≡ None)
IsEgressPeer value (Networks cidrs) = (blocks_of (items_at (codes "networks") value) ≡ map Some cidrs) × (member_of (codes "namespaces") value ≡ None) × (member_of (codes "pods") value ≡ None)

-- ---- ports

-- the ports of the protocol that `protocol` names, from the number of one member to that of another
abbrev pub IsSpanOf : List ℕ → List ℕ → Data → AdminPort → Type 0
IsSpanOf first last entry (Span proto lo hi) = (proto ≡ protocol_of entry) × (number_at first entry ≡ Some (pos lo)) × (number_at last entry ≡ Some (pos hi))
IsSpanOf first last entry (Named name) = ⊥

-- the ports of that name
abbrev pub IsNamedBy : Data → AdminPort → Type 0
IsNamedBy entry (Span proto lo hi) = ⊥
IsNamedBy entry (Named name) = as_str entry ≡ Some name

-- `portNumber`, `portRange` or `namedPort`, one of which is there
abbrev pub IsPortBy : Option Data → Option Data → Option Data → AdminPort → Type 0
IsPortBy (Some one) None None read = IsSpanOf (codes "port") (codes "port") one read
IsPortBy None (Some range) None read = IsSpanOf (codes "start") (codes "end") range read
IsPortBy None None (Some name) read = IsNamedBy name read
IsPortBy _ _ _ read = ⊥

abbrev pub IsAdminPort : Data → AdminPort → Type 0
IsAdminPort value = IsPortBy (member_of (codes "portNumber") value) (member_of (codes "portRange") value) (member_of (codes "namedPort") value)

-- ---- rules

abbrev pub action_text : Action → List ℕ
action_text Allow = codes "Allow"
action_text Deny = codes "Deny"
action_text Pass = codes "Pass"

-- an entry of `ingress`: its action, and the entries of `from` and `ports` in order
pub record IsIngressRule (value : Data) (rule : AdminRule) : Type 0 where
  pub action : text_at (codes "action") value ≡ action_text rule.action
  pub peers : AreEach IsIngressPeer (items_at (codes "from") value) rule.peers
  pub ports : AreEach IsAdminPort (items_at (codes "ports") value) rule.ports

-- an entry of `egress`: its action, and the entries of `to` and `ports` in order
pub record IsEgressRule (value : Data) (rule : AdminRule) : Type 0 where
  pub action : text_at (codes "action") value ≡ action_text rule.action
  pub peers : AreEach IsEgressPeer (items_at (codes "to") value) rule.peers
  pub ports : AreEach IsAdminPort (items_at (codes "ports") value) rule.ports

-- ---- policies

-- the subject, and the rules of both directions in order
pub record IsAdminSpec (spec : Data) (selected : Subject) (ingress_rules egress_rules : List AdminRule) : Type 0 where
  pub subject : ArePodsOf (object_at (codes "subject") spec) selected.namespaces selected.pods
  pub ingress : AreEach IsIngressRule (items_at (codes "ingress") spec) ingress_rules
  pub egress : AreEach IsEgressRule (items_at (codes "egress") spec) egress_rules

-- an AdminNetworkPolicy: its name, its priority, and what its spec says
pub record IsAdminPolicyOf (value : Data) (policy : AdminPolicy) : Type 0 where
  pub kind : IsOfKind (codes "policy.networking.k8s.io/v1alpha1") (codes "AdminNetworkPolicy") value
  pub name : text_at (codes "name") (object_at (codes "metadata") value) ≡ policy.name
  pub priority : number_at (codes "priority") (spec_of value) ≡ Some (pos policy.priority)
  pub spec : IsAdminSpec (spec_of value) policy.subject policy.ingress policy.egress

-- a BaselineAdminNetworkPolicy, which is named `default`
pub record IsBasePolicyOf (value : Data) (policy : BasePolicy) : Type 0 where
  pub kind : IsOfKind (codes "policy.networking.k8s.io/v1alpha1") (codes "BaselineAdminNetworkPolicy") value
  pub name : text_at (codes "name") (object_at (codes "metadata") value) ≡ codes "default"
  pub spec : IsAdminSpec (spec_of value) policy.subject policy.ingress policy.egress
