-- The selectors that are in force, whose keys tell pods apart.
use Rattle.std.specs.Prelude.{◌≡◌, ℕ, List, Option, Some, Contains, true, map}
use Rattle.np_fold.specs.Types.{AdminPeer, EstateLists, NetPeer, NetPolicy, NetRule, Selector, ServiceItem, Subject}
use Rattle.np_fold.specs.Keys.{admin_subjects}
use Rattle.np_labels.specs.Prelude.{is_listed}
use Rattle.np_model.specs.Prelude.{admin_peers}
use Rattle.np_model.specs.declared.admin_policy.AdminPeer.TheVariants as admin
use Rattle.np_model.specs.declared.network_policy.NetPeer.TheVariants as net

-- a peer of a NetworkPolicy has the selector, as its `namespaceSelector` or its `podSelector`
pub data IsOfNetPeer (selector : Selector) (peer : NetPeer) : Type 0 where
  namespaces : (pods : Option Selector) → peer ≡ net.Pods (Some selector) pods → IsOfNetPeer selector peer
  pods : (namespaces : Option Selector) → peer ≡ net.Pods namespaces (Some selector) → IsOfNetPeer selector peer

-- some peer of the rule has it
pub record IsOfNetRule (selector : Selector) (rule : NetRule) : Type 0 where
  pub peer : NetPeer
  pub listed : Contains rule.peers peer
  pub has : IsOfNetPeer selector peer

-- some rule of a direction that is among the policy's types has it
pub record IsOfNetDirection (selector : Selector) (direction : Option (List NetRule)) : Type 0 where
  pub rules : List NetRule
  pub there : direction ≡ Some rules
  pub rule : NetRule
  pub listed : Contains rules rule
  pub has : IsOfNetRule selector rule

-- a NetworkPolicy has the selector: it says which pods the policy is for, or a rule has it
pub data IsOfNetPolicy (selector : Selector) (policy : NetPolicy) : Type 0 where
  subject : policy.subject ≡ selector → IsOfNetPolicy selector policy
  ingress : IsOfNetDirection selector policy.ingress → IsOfNetPolicy selector policy
  egress : IsOfNetDirection selector policy.egress → IsOfNetPolicy selector policy

-- a peer of an admin rule has the selector
pub data IsOfAdminPeer (selector : Selector) (peer : AdminPeer) : Type 0 where
  namespaces : (pods : Selector) → peer ≡ admin.Pods selector pods → IsOfAdminPeer selector peer
  pods : (namespaces : Selector) → peer ≡ admin.Pods namespaces selector → IsOfAdminPeer selector peer

-- the subject of an admin policy or of the baseline has the selector
pub data IsOfSubject (selector : Selector) (subject : Subject) : Type 0 where
  namespaces : subject.namespaces ≡ selector → IsOfSubject selector subject
  pods : subject.pods ≡ selector → IsOfSubject selector subject

-- a selector of some policy or Service of the estate
pub data IsInForce (lists : EstateLists) (selector : Selector) : Type 0 where
  of_net_policy : (policy : NetPolicy) → Contains lists.net_policies policy → IsOfNetPolicy selector policy → IsInForce lists selector
  of_subject : (subject : Subject) → Contains (admin_subjects lists) subject → IsOfSubject selector subject → IsInForce lists selector
  of_admin_peer : (peer : AdminPeer) → Contains (admin_peers lists.admin_policies lists.baseline) peer → IsOfAdminPeer selector peer → IsInForce lists selector
  of_service : (service : ServiceItem) → Contains lists.services service → service.selector ≡ Some selector → IsInForce lists selector

-- some selector that is in force has a requirement of the key
pub record IsNamed (lists : EstateLists) (key : List ℕ) : Type 0 where
  pub selector : Selector
  pub in_force : IsInForce lists selector
  pub names : is_listed (map (λ requirement. requirement.key) selector.requirements) key ≡ true
