-- What is read by the shapes of admin policies is well formed. For WellPolicies.
use Rattle.std.proofs.Common.{◌≡◌, ℕ, ℤ, pos, negsuc, List, [], ◌∷◌, length, Bool, true, false, not, cond, ◌&&◌, ◌==◌, nat_le, Some, None, codes, Ok, refl}
use Rattle.std.specs.List.{list_all}
use Rattle.std.specs.Str.{bytes_eq}
use Rattle.std.proofs.lemmas.Bool.{and_from}
use Rattle.serde_json.specs.Data.{Data}
use Rattle.np_json.specs.Scalars as scalars
use Rattle.np_json.specs.Prelude.{has_member, has_one_of, listed, must_be_object, or_refuse, refuse, refuse_if, refuse_member_if, required, ◌>>=◌, ◌>>◌}
use Rattle.np_model.specs.Prelude.{direction_text, is_decision, is_name, is_well_admin_peer, is_well_admin_policy, is_well_admin_port, is_well_admin_rule, is_well_base_policy, is_well_cidr, is_well_subject}
use Rattle.np_policies.specs.Prelude.{Action, AdminKind, AdminPeer, AdminPolicy, AdminRule, AdminSpec, Allow, BadAction, BadPriority, BasePolicy, Deny, Direction, DomainPeer, Egress, EmptyPeers, Ingress, NodePeer, Pass, PeerShape, Subject, action, action_named, admin_peer, admin_peers, admin_policy, admin_port, admin_rule, admin_rules, admin_spec, all_pods, base_name, base_policy, base_spec, cidr, egress_member, egress_peer, everything, ingress_peer, namespace_selector, networks, object_name, peers_member, pods_member, priority, priority_number, selector, some_pods, subject}
use Rattle.np_policies.proofs.ReadLemmas.{bind-output, then-output, or_refuse-output}
use Rattle.np_policies.proofs.WellLemmas.{unbroken_member-output, listed-well, required-well, selector-well, cidr_text-well, admin_port-well}
use Rattle.np_model.specs.WellPolicies.{is_well_selector}
use Rattle.np_model.specs.declared.admin_policy.AdminPeer.TheVariants as peer
use Rattle.np_policies.specs.declared.admin_rule_shape.AdminKind.TheVariants as tier
use Rattle.np_policies.proofs.WellNetwork.{name-well}

-- ---- subjects and peers of admin policies

all_pods-well : (value : Data) (read : Subject) → all_pods value ≡ Ok read → is_well_subject read ≡ true
unfolding all_pods
all_pods-well value read is =
    let spaces = bind-output (selector value) (λ spaces. Ok (record { namespaces = spaces; pods = everything })) read is in
    let made : record { namespaces = spaces.first; pods = everything } ≡ read = let after = spaces.after in cc in
    rw (← made) (and_from (is_well_selector spaces.first) true (selector-well value spaces.first spaces.here) refl)

some_pods-well : (value : Data) (read : Subject) → some_pods value ≡ Ok read → is_well_subject read ≡ true
unfolding some_pods namespace_selector
some_pods-well value read is =
    let past = then-output (must_be_object value) _ read is in
    let spaces = bind-output (required (codes "namespaceSelector") selector value) _ read past in
    let pods = bind-output (required (codes "podSelector") selector value) (λ pods. Ok (record { namespaces = spaces.first; pods = pods })) read spaces.after in
    let made : record { namespaces = spaces.first; pods = pods.first } ≡ read = let after = pods.after in cc in
    let first = required-well selector is_well_selector selector-well (codes "namespaceSelector") value spaces.first spaces.here in
    let second = required-well selector is_well_selector selector-well (codes "podSelector") value pods.first pods.here in
    rw (← made) (and_from (is_well_selector spaces.first) (is_well_selector pods.first) first second)

pods_member-well : (value : Data) (read : Subject) → pods_member value ≡ Ok read → is_well_subject read ≡ true
pods_member-well value read is = by (has_member (codes "namespaces") value) is
  where
    by : (b : Bool) → cond b (required (codes "namespaces") all_pods value) (required (codes "pods") some_pods value) ≡ Ok read → is_well_subject read ≡ true
    by true is = required-well all_pods is_well_subject all_pods-well (codes "namespaces") value read is
    by false is = required-well some_pods is_well_subject some_pods-well (codes "pods") value read is

subject-well : (value : Data) (read : Subject) → subject value ≡ Ok read → is_well_subject read ≡ true
unfolding subject
subject-well value read is =
    let past = then-output (must_be_object value) _ read is in
    let shaped = then-output (refuse_if (not (has_one_of (codes "namespaces" ∷ codes "pods" ∷ []) value)) PeerShape) (pods_member value) read past in
    pods_member-well value read shaped

ingress_peer-well : (value : Data) (read : AdminPeer) → ingress_peer value ≡ Ok read → is_well_admin_peer read ≡ true
unfolding ingress_peer
ingress_peer-well value read is =
    let pods = bind-output (subject value) (λ one. Ok (peer.Pods one.namespaces one.pods)) read is in
    let made : peer.Pods pods.first.namespaces pods.first.pods ≡ read = let after = pods.after in cc in
    rw (← made) (subject-well value pods.first pods.here)

networks-well : (value : Data) (read : AdminPeer) → networks value ≡ Ok read → is_well_admin_peer read ≡ true
unfolding networks
networks-well value read is =
    let cidrs = bind-output (listed (codes "networks") cidr value) (λ cidrs. refuse_member_if (codes "networks") (length cidrs == 0) EmptyPeers >> Ok (peer.Networks cidrs)) read is in
    let end = then-output (refuse_member_if (codes "networks") (length cidrs.first == 0) EmptyPeers) (Ok (peer.Networks cidrs.first)) read cidrs.after in
    let made : peer.Networks cidrs.first ≡ read = cc in
    rw (← made) (listed-well cidr is_well_cidr cidr_text-well (codes "networks") value cidrs.first cidrs.here)

egress_member-well : (value : Data) (read : AdminPeer) → egress_member value ≡ Ok read → is_well_admin_peer read ≡ true
egress_member-well value read is = by (has_member (codes "networks") value) is
  where
    by : (b : Bool) → cond b (networks value) (pods_member value >>= λ one. Ok (peer.Pods one.namespaces one.pods)) ≡ Ok read → is_well_admin_peer read ≡ true
    by true is = networks-well value read is
    by false is =
        let pods = bind-output (pods_member value) (λ one. Ok (peer.Pods one.namespaces one.pods)) read is in
        let made : peer.Pods pods.first.namespaces pods.first.pods ≡ read = let after = pods.after in cc in
        rw (← made) (pods_member-well value pods.first pods.here)

egress_peer-well : (value : Data) (read : AdminPeer) → egress_peer value ≡ Ok read → is_well_admin_peer read ≡ true
unfolding egress_peer
egress_peer-well value read is =
    let past = then-output (must_be_object value) _ read is in
    let nodes = then-output (refuse_member_if (codes "nodes") (has_member (codes "nodes") value) NodePeer) _ read past in
    let domains = then-output (refuse_member_if (codes "domainNames") (has_member (codes "domainNames") value) DomainPeer) _ read nodes in
    let shaped = then-output (refuse_if (not (has_one_of (codes "namespaces" ∷ codes "pods" ∷ codes "networks" ∷ []) value)) PeerShape) (egress_member value) read domains in
    egress_member-well value read shaped

admin_peer-well : (direction : Direction) (value : Data) (read : AdminPeer) → admin_peer direction value ≡ Ok read → is_well_admin_peer read ≡ true
admin_peer-well Ingress value read is = ingress_peer-well value read is
admin_peer-well Egress value read is = egress_peer-well value read is

-- ---- rules of admin policies

abbrev are_well : List AdminPeer → Bool
are_well peers = not (length peers == 0) && list_all is_well_admin_peer peers

admin_peers-well : (direction : Direction) (value : Data) (read : List AdminPeer) → admin_peers direction value ≡ Ok read → are_well read ≡ true
unfolding admin_peers
admin_peers-well direction value read is =
    let peers = bind-output (listed (peers_member direction) (admin_peer direction) value) (λ peers. refuse_member_if (peers_member direction) (length peers == 0) EmptyPeers >> Ok peers) read is in
    let some = unbroken_member-output (peers_member direction) (length peers.first == 0) EmptyPeers (Ok peers.first) read peers.after in
    let end = then-output (refuse_member_if (peers_member direction) (length peers.first == 0) EmptyPeers) (Ok peers.first) read peers.after in
    let made : peers.first ≡ read = cc in
    let each = listed-well (admin_peer direction) is_well_admin_peer (admin_peer-well direction) (peers_member direction) value peers.first peers.here in
    rw (← made) (rw (some, each) refl)

-- a decision, where the policy is the baseline
abbrev may_stand : AdminKind → Action → Bool
may_stand tier.Admin one = true
may_stand tier.Baseline one = is_decision one

named-well : (which : AdminKind) (s : List ℕ) (one : Action) → action_named which s ≡ Some one → may_stand which one ≡ true
named-well tier.Admin s one is = refl
named-well tier.Baseline s one is = by (bytes_eq s (codes "Allow")) (bytes_eq s (codes "Deny")) one is
  where
    by : (allow deny : Bool) (one : Action) → cond allow (Some Allow) (cond deny (Some Deny) None) ≡ Some one → is_decision one ≡ true
    by allow deny Allow is = refl
    by allow deny Deny is = refl
    by true deny Pass is = cc
    by false true Pass is = cc
    by false false Pass is = cc

action-well : (which : AdminKind) (value : Data) (one : Action) → action which value ≡ Ok one → may_stand which one ≡ true
unfolding action
action-well which value one is =
    let read = bind-output (scalars.text value) (λ s. or_refuse BadAction (action_named which s)) one is in
    named-well which read.first one (or_refuse-output BadAction (action_named which read.first) one read.after)

abbrev is_well_rule : AdminKind → AdminRule → Bool
is_well_rule which rule = may_stand which rule.action && is_well_admin_rule rule

admin_rule-well : (which : AdminKind) (direction : Direction) (value : Data) (read : AdminRule) → admin_rule which direction value ≡ Ok read → is_well_rule which read ≡ true
unfolding admin_rule
admin_rule-well which direction value read is =
    let past = then-output (must_be_object value) _ read is in
    let one = bind-output (required (codes "action") (action which) value) _ read past in
    let peers = bind-output (admin_peers direction value) _ read one.after in
    let ports = bind-output (listed (codes "ports") admin_port value) (λ ports. Ok (record { action = one.first; peers = peers.first; ports = ports })) read peers.after in
    let made : record { action = one.first; peers = peers.first; ports = ports.first } ≡ read = let after = ports.after in cc in
    let first = required-well (action which) (may_stand which) (action-well which) (codes "action") value one.first one.here in
    let second = admin_peers-well direction value peers.first peers.here in
    let third = listed-well admin_port is_well_admin_port admin_port-well (codes "ports") value ports.first ports.here in
    rw (← made) (rw (first, second, third) refl)

admin_rules-well : (which : AdminKind) (direction : Direction) (value : Data) (read : List AdminRule) → admin_rules which direction value ≡ Ok read → list_all (is_well_rule which) read ≡ true
unfolding admin_rules
admin_rules-well which direction value read is = listed-well (admin_rule which direction) (is_well_rule which) (admin_rule-well which direction) (direction_text direction) value read is

-- ---- admin policies

priority-well : (value : Data) (read : ℕ) → priority value ≡ Ok read → nat_le read 1000 ≡ true
unfolding priority
priority-well value read is =
    let number = bind-output (scalars.whole value) priority_number read is in
    by number.first number.after
  where
    by_bound : (n : ℕ) (b : Bool) → nat_le n 1000 ≡ b → cond b (Ok n) (refuse BadPriority) ≡ Ok read → nat_le read 1000 ≡ true
    by_bound n true here is =
        let same : n ≡ read = cc in
        rw (← same) here
    by_bound n false here is = cc

    by : (n : ℤ) → priority_number n ≡ Ok read → nat_le read 1000 ≡ true
    by (pos n) is = by_bound n (nat_le n 1000) refl is
    by (negsuc n) is = cc

object_name-well : (value : Data) (s : List ℕ) → object_name value ≡ Ok s → is_name s ≡ true
unfolding object_name
object_name-well value s is =
    let named = then-output (must_be_object value) (required (codes "name") scalars.name value) s is in
    required-well scalars.name is_name name-well (codes "name") value s named

abbrev is_well_admin_spec : AdminSpec → Bool
is_well_admin_spec spec =
    nat_le spec.priority 1000 && is_well_subject spec.subject
    && list_all is_well_admin_rule spec.ingress && list_all is_well_admin_rule spec.egress

admin_spec-well : (value : Data) (read : AdminSpec) → admin_spec value ≡ Ok read → is_well_admin_spec read ≡ true
unfolding admin_spec
admin_spec-well value read is =
    let past = then-output (must_be_object value) _ read is in
    let rank = bind-output (required (codes "priority") priority value) _ read past in
    let pods = bind-output (required (codes "subject") subject value) _ read rank.after in
    let ingress = bind-output (admin_rules tier.Admin Ingress value) _ read pods.after in
    let egress = bind-output (admin_rules tier.Admin Egress value)
    (λ egress. Ok (record { priority = rank.first; subject = pods.first; ingress = ingress.first; egress = egress })) read ingress.after in
    let made : record { priority = rank.first; subject = pods.first; ingress = ingress.first; egress = egress.first } ≡ read = let after = egress.after in cc in
    let first = required-well priority (λ n. nat_le n 1000) priority-well (codes "priority") value rank.first rank.here in
    let second = required-well subject is_well_subject subject-well (codes "subject") value pods.first pods.here in
    rw (← made) (rw (first, second, admin_rules-well tier.Admin Ingress value ingress.first ingress.here, admin_rules-well tier.Admin Egress value egress.first egress.here) refl)

pub admin_policy-well : (value : Data) (read : AdminPolicy) → admin_policy value ≡ Ok read → is_well_admin_policy read ≡ true
unfolding admin_policy
admin_policy-well value read is =
    let s = bind-output (required (codes "metadata") object_name value) _ read is in
    let spec = bind-output (required (codes "spec") admin_spec value)
    (λ spec. Ok (record { name = s.first; priority = spec.priority; subject = spec.subject; ingress = spec.ingress; egress = spec.egress })) read s.after in
    let one = spec.first in
    let made : record { name = s.first; priority = one.priority; subject = one.subject; ingress = one.ingress; egress = one.egress } ≡ read = let after = spec.after in cc in
    let first = required-well object_name is_name object_name-well (codes "metadata") value s.first s.here in
    let second = required-well admin_spec is_well_admin_spec admin_spec-well (codes "spec") value spec.first spec.here in
    rw (← made) (put_in (is_name s.first) (nat_le one.priority 1000) (is_well_subject one.subject) (list_all is_well_admin_rule one.ingress) (list_all is_well_admin_rule one.egress) first second)
  where
    put_in : (a b c d e : Bool) → a ≡ true → (((b && c) && d) && e) ≡ true → ((((a && b) && c) && d) && e) ≡ true
    put_in true b c d e is all = all
    put_in false b c d e is all = cc

base_spec-well : (value : Data) (read : BasePolicy) → base_spec value ≡ Ok read → is_well_base_policy read ≡ true
unfolding base_spec
base_spec-well value read is =
    let past = then-output (must_be_object value) _ read is in
    let pods = bind-output (required (codes "subject") subject value) _ read past in
    let ingress = bind-output (admin_rules tier.Baseline Ingress value) _ read pods.after in
    let egress = bind-output (admin_rules tier.Baseline Egress value) (λ egress. Ok (record { subject = pods.first; ingress = ingress.first; egress = egress })) read ingress.after in
    let made : record { subject = pods.first; ingress = ingress.first; egress = egress.first } ≡ read = let after = egress.after in cc in
    let first = required-well subject is_well_subject subject-well (codes "subject") value pods.first pods.here in
    rw (← made) (rw (first, admin_rules-well tier.Baseline Ingress value ingress.first ingress.here, admin_rules-well tier.Baseline Egress value egress.first egress.here) refl)

pub base_policy-well : (value : Data) (read : BasePolicy) → base_policy value ≡ Ok read → is_well_base_policy read ≡ true
unfolding base_policy
base_policy-well value read is =
    let named = then-output (required (codes "metadata") base_name value) (required (codes "spec") base_spec value) read is in
    required-well base_spec is_well_base_policy base_spec-well (codes "spec") value read named
