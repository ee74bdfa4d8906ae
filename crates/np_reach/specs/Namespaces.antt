-- Which namespaces policies may speak of, whatever the labels of their pods are.
use Rattle.std.specs.Prelude.{◌≡◌, ℕ, List, [], Bool, true, false, ◌&&◌, ◌||◌, Some, None, unwrap_or}
use Rattle.std.proofs.Common.{refl, sym, ap, ◌∙◌}
use Rattle.std.proofs.lemmas.Bool.{and_left, false≢true, or_from}
use Rattle.std.specs.List.{list_any}
use Rattle.std.specs.Str.{bytes_eq}
use Rattle.np_reach.specs.Types.{AdminPolicy, AdminRule, Direction, Family, Four, NetPolicy, NetRule, Six}
use Rattle.np_labels.specs.Prelude.{meets_selector}
use Rattle.np_model.specs.declared.admin_policy.AdminPeer.{AdminPeer}
use Rattle.np_model.specs.declared.admin_policy.AdminPeer.TheVariants as admin
use Rattle.np_model.specs.declared.network_policy.NetPeer.{NetPeer}
use Rattle.np_model.specs.declared.network_policy.NetPeer.TheVariants as net
use Rattle.np_reach.specs.Reach.{admin_reaches, admin_rule_reaches, net_reaches}
use Rattle.np_rules.proofs.KeptLemmas.{none_quieter, quieter}
use Rattle.np_rules.specs.Prelude.{PodEnd, admin_peer_matches, admin_rules_of, net_peer_matches, net_rules_of, net_selects, none_or_any, pod, subject_selects}
use Rattle.np_rules.specs.model.Sides.{is_allow}

-- two pods are of one namespace, as rules see them
pub record AreOfOneNamespace (one far : PodEnd) : Type 0 where
  pub name : far.namespace ≡ one.namespace
  pub labels : far.namespace_labels ≡ one.namespace_labels

-- ---- NetworkPolicies

-- whether a peer of a NetworkPolicy of this namespace may stand for pods of a pod's namespace
abbrev pub net_peer_concerns : List ℕ → PodEnd → NetPeer → Bool
net_peer_concerns namespace one (net.Pods None pods) = bytes_eq namespace one.namespace
net_peer_concerns namespace one (net.Pods (Some namespaces) pods) = meets_selector namespaces one.namespace_labels
net_peer_concerns namespace one (net.Block cidr excepts) = false

abbrev pub some_net_peer_concerns : List ℕ → PodEnd → List NetPeer → Bool
some_net_peer_concerns namespace one peers = list_any (net_peer_concerns namespace one) peers

abbrev pub net_rule_concerns : List ℕ → PodEnd → NetRule → Bool
net_rule_concerns namespace one rule = none_or_any (net_peer_concerns namespace one) rule.peers

abbrev pub net_concerns : Direction → PodEnd → NetPolicy → Bool
net_concerns direction one policy = list_any (net_rule_concerns policy.namespace one) (unwrap_or (net_rules_of direction policy) [])

-- ---- admin policies

-- whether a peer of an admin rule may stand for pods of a pod's namespace
abbrev pub admin_peer_concerns : PodEnd → AdminPeer → Bool
admin_peer_concerns one (admin.Pods namespaces pods) = meets_selector namespaces one.namespace_labels
admin_peer_concerns one (admin.Networks cidrs) = true

abbrev pub some_admin_peer_concerns : PodEnd → List AdminPeer → Bool
some_admin_peer_concerns one peers = list_any (admin_peer_concerns one) peers

abbrev pub admin_rule_concerns : PodEnd → AdminRule → Bool
admin_rule_concerns one rule = is_allow rule.action && some_admin_peer_concerns one rule.peers

abbrev pub admin_concerns : Direction → PodEnd → AdminPolicy → Bool
admin_concerns direction one policy = list_any (admin_rule_concerns one) (admin_rules_of direction policy)

-- ---- where no rule may speak of pods of a namespace, none speaks of one

net_peer_silent : (namespace : List ℕ) (one far : PodEnd) (peer : NetPeer) → AreOfOneNamespace one far → net_peer_concerns namespace one peer ≡ false → net_peer_matches namespace peer (pod far) ≡ false
net_peer_silent namespace one far (net.Pods None None) same none = refl
net_peer_silent namespace one far (net.Pods None (Some pods)) same none = and_left _ _ (ap (bytes_eq namespace) same.name ∙ none)
net_peer_silent namespace one far (net.Pods (Some namespaces) None) same none = ap (meets_selector namespaces) same.labels ∙ none
net_peer_silent namespace one far (net.Pods (Some namespaces) (Some pods)) same none = and_left _ _ (ap (meets_selector namespaces) same.labels ∙ none)
net_peer_silent namespace one far (net.Block cidr excepts) same none = refl

pub net_silent_elsewhere : (policy : NetPolicy) (direction : Direction) (one far : PodEnd) → AreOfOneNamespace one far → net_concerns direction one policy ≡ false → net_reaches direction (pod far) policy ≡ false
net_silent_elsewhere policy direction one far same =
    quieter (net_rule_concerns policy.namespace one) (λ rule. none_or_any (λ peer. net_peer_matches policy.namespace peer (pod far)) rule.peers) (unwrap_or (net_rules_of direction policy) [])
    (λ rule. none_quieter (net_peer_concerns policy.namespace one) (λ peer. net_peer_matches policy.namespace peer (pod far)) rule.peers (λ peer. net_peer_silent policy.namespace one far peer same))

admin_peer_silent : (one far : PodEnd) (family : Family) (peer : AdminPeer) → AreOfOneNamespace one far → admin_peer_concerns one peer ≡ false → admin_peer_matches peer (pod far) family ≡ false
admin_peer_silent one far family (admin.Pods namespaces pods) same none = and_left _ _ (ap (meets_selector namespaces) same.labels ∙ none)
admin_peer_silent one far family (admin.Networks cidrs) same none = absurd (false≢true (sym none))

admin_rule_silent : (one far : PodEnd) (rule : AdminRule) → AreOfOneNamespace one far → admin_rule_concerns one rule ≡ false → admin_rule_reaches (pod far) rule ≡ false
admin_rule_silent one far rule same = go (is_allow rule.action)
  where
    silent : (family : Family) → list_any (admin_peer_concerns one) rule.peers ≡ false → list_any (λ peer. admin_peer_matches peer (pod far) family) rule.peers ≡ false
    silent family = quieter (admin_peer_concerns one) (λ peer. admin_peer_matches peer (pod far) family) rule.peers (λ peer. admin_peer_silent one far family peer same)

    go : (b : Bool) → (b && some_admin_peer_concerns one rule.peers) ≡ false → (b && (list_any (λ peer. admin_peer_matches peer (pod far) Four) rule.peers || list_any (λ peer. admin_peer_matches peer (pod far) Six) rule.peers)) ≡ false
    go true none = or_from _ _ (silent Four none) (silent Six none)
    go false none = refl

pub admin_silent_elsewhere : (policy : AdminPolicy) (direction : Direction) (one far : PodEnd) → AreOfOneNamespace one far → admin_concerns direction one policy ≡ false → admin_reaches direction (pod far) policy ≡ false
admin_silent_elsewhere policy direction one far same =
    quieter (admin_rule_concerns one) (admin_rule_reaches (pod far)) (admin_rules_of direction policy) (λ rule. admin_rule_silent one far rule same)

-- ---- nor may a policy select a pod of another namespace

-- whether a NetworkPolicy is of a pod's namespace
abbrev pub is_of_namespace : NetPolicy → PodEnd → Bool
is_of_namespace policy one = bytes_eq policy.namespace one.namespace

pub net_unpicked_elsewhere : (policy : NetPolicy) (one near : PodEnd) → AreOfOneNamespace one near → is_of_namespace policy one ≡ false → net_selects policy near ≡ false
net_unpicked_elsewhere policy one near same other = and_left _ _ (ap (bytes_eq policy.namespace) same.name ∙ other)

-- whether an admin policy selects a pod's namespace
abbrev pub selects_namespace : AdminPolicy → PodEnd → Bool
selects_namespace policy one = meets_selector policy.subject.namespaces one.namespace_labels

pub admin_unpicked_elsewhere : (policy : AdminPolicy) (one near : PodEnd) → AreOfOneNamespace one near → selects_namespace policy one ≡ false → subject_selects policy.subject near ≡ false
admin_unpicked_elsewhere policy one near same other = and_left _ _ (ap (meets_selector policy.subject.namespaces) same.labels ∙ other)
