-- An admin policy that was read is what its members say.
-- For `admin_policies_mean_their_members` and `baseline_policies_mean_their_members`.
use Rattle.std.proofs.Common.{◌≡◌, ℕ, ℤ, pos, negsuc, ◌+◌, List, [], ◌∷◌, length, map, Bool, true, false, not, cond, ◌==◌, nat_le, nat_lt, is_some, Option, Some, None, codes, Ok, Err, refl, sym, ap, subst, ◌∙◌}
use Rattle.std.specs.Cmp.Lexicographic.{bytes_decides}
use Rattle.std.specs.Str.{bytes_eq}
use Rattle.std.proofs.lemmas.Bool.{not-false}
use Rattle.serde_json.specs.Data.{Data}
use Rattle.serde_json.specs.Find.{as_str}
use Rattle.np_json.specs.Prelude.{Read, as_whole, has_member, has_one_of, listed, member_of, must_be_object, name, or_refuse, port, refuse, refuse_if, refuse_member_if, required, text, whole, ◌>>=◌, ◌>>◌}
use Rattle.np_model.specs.Prelude.{is_word}
use Rattle.np_meaning.specs.Prelude.{Action, AdminKind, AdminPeer, AdminPolicy, AdminPort, AdminRule, AdminSpec, Allow, ArePodsBy, ArePodsOf, BadAction, BadField, BadPort, BadPriority, BasePolicy, BaselineName, Deny, DomainPeer, Egress, EmptyPeers, Ingress, IsAdminPolicyOf, IsAdminPort, IsAdminSpec, IsBasePolicyOf, IsEgressPeer, IsEgressRule, IsIngressPeer, IsIngressRule, IsPortBy, IsSpanOf, NodePeer, Pass, PeerShape, Subject, action_text, blocks_of, number_at, object_at, spec_of, text_at}
use Rattle.np_model.specs.declared.admin_policy.AdminPort.TheVariants.{Named, Span}
use Rattle.np_meaning.proofs.PolicyKinds.{admin-read, base-read}
use Rattle.np_meaning.proofs.MemberReads.{object_at-output, found-output, required-some, AreEach-listed, number_at-output, name-output, port-whole, of_type-output, text_at-output}
use Rattle.np_meaning.proofs.PeersMeaning.{blocks_of-each_item, not_there}
use Rattle.np_meaning.proofs.PortsMeaning.{protocol-output}
use Rattle.np_policies.proofs.ReadLemmas.{bind-output, then-output, required-output, listed-output, or_refuse-output}
use Rattle.np_policies.proofs.WellLemmas.{unbroken-output, unbroken_member-output}
use Rattle.np_policies.specs.Prelude.{action, action_named, admin_peer, admin_peers, admin_policy, admin_port, admin_port_member, admin_rule, admin_rules, admin_spec, all_pods, base_name, base_policy, base_spec, cidr, container_port_name, egress_member, egress_peer, everything, ingress_peer, items_at, named_port, namespace_selector, networks, object_name, one_port, pods_member, policy_of, port_range, priority, priority_number, protocol, selector, some_pods, subject}
use Rattle.np_meaning.specs.PolicyMeaning.{AreEach}
use Rattle.np_model.specs.declared.admin_policy.AdminPeer.TheVariants as peer
use Rattle.np_policies.specs.declared.admin_rule_shape.AdminKind.TheVariants as tier
use Rattle.np_policies.specs.declared.policy.Policy.TheVariants as policy

-- ---- subjects and peers

all_pods-output : (value : Data) (read : Subject) → all_pods value ≡ Ok read → (selector value ≡ Ok read.namespaces) × (read.pods ≡ everything)
unfolding all_pods
all_pods-output value read is =
    let spaces = bind-output (selector value) (λ spaces. Ok (record { namespaces = spaces; pods = everything })) read is in
    let made : record { namespaces = spaces.first; pods = everything } ≡ read = let after = spaces.after in cc in
    rw (← made) (spaces.here, refl)

some_pods-output : (value : Data) (read : Subject) → some_pods value ≡ Ok read → ArePodsBy None (Some value) read.namespaces read.pods
unfolding some_pods namespace_selector
some_pods-output value read is =
    let past = then-output (must_be_object value) _ read is in
    let spaces = bind-output (required (codes "namespaceSelector") selector value) _ read past in
    let pods = bind-output (required (codes "podSelector") selector value) (λ pods. Ok (record { namespaces = spaces.first; pods = pods })) read spaces.after in
    let made : record { namespaces = spaces.first; pods = pods.first } ≡ read = let after = pods.after in cc in
    rw (← made) (required-some selector (codes "namespaceSelector") value spaces.first spaces.here, required-some selector (codes "podSelector") value pods.first pods.here)

pods_by : (value : Data) (read : Subject) (spaces pods : Option Data) → member_of (codes "namespaces") value ≡ spaces → member_of (codes "pods") value ≡ pods → is_some spaces ≡ not (is_some pods) →
    pods_member value ≡ Ok read → ArePodsBy spaces pods read.namespaces read.pods
pods_by value read None None no_spaces no_pods one is = cc
pods_by value read (Some spaces) None there no_pods one is =
    all_pods-output spaces read (found-output all_pods (codes "namespaces") value spaces read (rw there at is) there)
pods_by value read None (Some pods) no_spaces there one is =
    some_pods-output pods read (found-output some_pods (codes "pods") value pods read (rw no_spaces at is) there)
pods_by value read (Some spaces) (Some pods) there pods_there one is = cc

pods_member-output : (value : Data) (read : Subject) → has_member (codes "namespaces") value ≡ not (has_member (codes "pods") value) → pods_member value ≡ Ok read →
    ArePodsOf value read.namespaces read.pods
pods_member-output value read one is = pods_by value read (member_of (codes "namespaces") value) (member_of (codes "pods") value) refl refl one is

-- ---- exactly one of some members

either : (a b : Bool) → (0 + cond a 1 0 + cond b 1 0 == 1) ≡ true → a ≡ not b
either true true one = cc
either true false one = refl
either false true one = refl
either false false one = cc

-- whether exactly one of three is there
abbrev is_one : Bool → Bool → Bool → Bool
is_one a b c = 0 + cond a 1 0 + cond b 1 0 + cond c 1 0 == 1

third_missing : (a b : Bool) → is_one a b false ≡ true → a ≡ not b
third_missing true true one = cc
third_missing true false one = refl
third_missing false true one = refl
third_missing false false one = cc

third_alone : (a b : Bool) → is_one a b true ≡ true → (a ≡ false) × (b ≡ false)
third_alone true true one = cc
third_alone true false one = cc
third_alone false true one = cc
third_alone false false one = (refl, refl)

unbroken_shape : {B : Type 0} (fits : Bool) (rest : Read B) (output : B) → (refuse_if (not fits) PeerShape >> rest) ≡ Ok output → fits ≡ true
unbroken_shape fits rest output is = not-false fits (unbroken-output (not fits) PeerShape rest output is)

subject-output : (value : Data) (read : Subject) → subject value ≡ Ok read → ArePodsOf value read.namespaces read.pods
unfolding subject
subject-output value read is =
    let past = then-output (must_be_object value) _ read is in
    let one = unbroken_shape (has_one_of (codes "namespaces" ∷ codes "pods" ∷ []) value) (pods_member value) read past in
    let shaped = then-output (refuse_if (not (has_one_of (codes "namespaces" ∷ codes "pods" ∷ []) value)) PeerShape) (pods_member value) read past in
    pods_member-output value read (either (has_member (codes "namespaces") value) (has_member (codes "pods") value) one) shaped

ingress_peer-output : (value : Data) (read : AdminPeer) → admin_peer Ingress value ≡ Ok read → IsIngressPeer value read
unfolding ingress_peer
ingress_peer-output value read is =
    let pods = bind-output (subject value) (λ one. Ok (peer.Pods one.namespaces one.pods)) read is in
    let made : peer.Pods pods.first.namespaces pods.first.pods ≡ read = let after = pods.after in cc in
    rw (← made) (subject-output value pods.first pods.here)

networks-output : (value : Data) (read : AdminPeer) → networks value ≡ Ok read → (cidrs : List _) × (read ≡ peer.Networks cidrs) × (blocks_of (items_at (codes "networks") value) ≡ map Some cidrs)
unfolding networks
networks-output value read is =
    let cidrs = bind-output (listed (codes "networks") cidr value) (λ cidrs. refuse_member_if (codes "networks") (length cidrs == 0) EmptyPeers >> Ok (peer.Networks cidrs)) read is in
    let end = then-output (refuse_member_if (codes "networks") (length cidrs.first == 0) EmptyPeers) (Ok (peer.Networks cidrs.first)) read cidrs.after in
    (cidrs.first, cc, blocks_of-each_item 0 (items_at (codes "networks") value) cidrs.first (listed-output cidr (codes "networks") value cidrs.first cidrs.here))

egress_by : (value : Data) (read : AdminPeer) (blocks : Option Data) → member_of (codes "networks") value ≡ blocks →
    is_one (has_member (codes "namespaces") value) (has_member (codes "pods") value) (is_some blocks) ≡ true → egress_member value ≡ Ok read → IsEgressPeer value read
egress_by value read None none one is =
    let pods = bind-output (pods_member value) (λ one. Ok (peer.Pods one.namespaces one.pods)) read (rw none at is) in
    let made : peer.Pods pods.first.namespaces pods.first.pods ≡ read = let after = pods.after in cc in
    let meant = pods_member-output value pods.first (third_missing (has_member (codes "namespaces") value) (has_member (codes "pods") value) one) pods.here in
    subst (IsEgressPeer value) made (meant, none)
egress_by value read (Some blocks) there one is =
    let made = networks-output value read (rw there at is) in
    let alone = third_alone (has_member (codes "namespaces") value) (has_member (codes "pods") value) one in
    subst (IsEgressPeer value) (sym made.1) (made.2, not_there (member_of (codes "namespaces") value) alone.0, not_there (member_of (codes "pods") value) alone.1)

egress_peer-output : (value : Data) (read : AdminPeer) → admin_peer Egress value ≡ Ok read → IsEgressPeer value read
unfolding egress_peer
egress_peer-output value read is =
    let past = then-output (must_be_object value) _ read is in
    let nodes = then-output (refuse_member_if (codes "nodes") (has_member (codes "nodes") value) NodePeer) _ read past in
    let domains = then-output (refuse_member_if (codes "domainNames") (has_member (codes "domainNames") value) DomainPeer) _ read nodes in
    let one = unbroken_shape (has_one_of (codes "namespaces" ∷ codes "pods" ∷ codes "networks" ∷ []) value) (egress_member value) read domains in
    let shaped = then-output (refuse_if (not (has_one_of (codes "namespaces" ∷ codes "pods" ∷ codes "networks" ∷ []) value)) PeerShape) (egress_member value) read domains in
    egress_by value read (member_of (codes "networks") value) refl one shaped

-- ---- ports

one_port-output : (value : Data) (read : AdminPort) → one_port value ≡ Ok read → IsSpanOf (codes "port") (codes "port") value read
unfolding one_port
one_port-output value read is =
    let past = then-output (must_be_object value) _ read is in
    let proto = bind-output (protocol value) _ read past in
    let number = bind-output (required (codes "port") port value) (λ number. Ok (Span proto.first number number)) read proto.after in
    let made : Span proto.first number.first number.first ≡ read = let after = number.after in cc in
    let at = number_at-output port port-whole (codes "port") value number.first number.here in
    rw (← made) (protocol-output value proto.first proto.here, at, at)

port_range-output : (value : Data) (read : AdminPort) → port_range value ≡ Ok read → IsSpanOf (codes "start") (codes "end") value read
unfolding port_range
port_range-output value read is =
    let past = then-output (must_be_object value) _ read is in
    let proto = bind-output (protocol value) _ read past in
    let first = bind-output (required (codes "start") port value) _ read proto.after in
    let last = bind-output (required (codes "end") port value) (λ last. refuse_member_if (codes "end") (nat_lt last first.first) BadPort >> Ok (Span proto.first first.first last)) read first.after in
    let end = then-output (refuse_member_if (codes "end") (nat_lt last.first first.first) BadPort) (Ok (Span proto.first first.first last.first)) read last.after in
    let made : Span proto.first first.first last.first ≡ read = cc in
    let from = number_at-output port port-whole (codes "start") value first.first first.here in
    let to = number_at-output port port-whole (codes "end") value last.first last.here in
    rw (← made) (protocol-output value proto.first proto.here, from, to)

port_name-output : (value : Data) (s : List ℕ) → container_port_name value ≡ Ok s → as_str value ≡ Some s
unfolding container_port_name
port_name-output value s is =
    let read = bind-output (text value) _ s is in
    let some = then-output (refuse_if (length read.first == 0) BadPort) (refuse_if (not (is_word read.first)) BadField >> Ok read.first) s read.after in
    let end = then-output (refuse_if (not (is_word read.first)) BadField) (Ok read.first) s some in
    let same : read.first ≡ s = cc in
    of_type-output (as_str value) read.first read.here ∙ ap Some same

named_port-output : (value : Data) (read : AdminPort) → named_port value ≡ Ok read → IsPortBy None None (Some value) read
unfolding named_port
named_port-output value read is =
    let name = bind-output (container_port_name value) (λ name. Ok (Named name)) read is in
    let made : Named name.first ≡ read = let after = name.after in cc in
    rw (← made) (port_name-output value name.first name.here)

port_by : (value : Data) (read : AdminPort) (sole range name : Option Data) → member_of (codes "portNumber") value ≡ sole → member_of (codes "portRange") value ≡ range →
    member_of (codes "namedPort") value ≡ name → is_one (is_some sole) (is_some range) (is_some name) ≡ true → admin_port_member value ≡ Ok read → IsPortBy sole range name read
port_by value read None None None no_number no_range no_name one is = cc
port_by value read (Some sole) None None there no_range no_name one is =
    one_port-output sole read (found-output one_port (codes "portNumber") value sole read (rw there at is) there)
port_by value read None (Some range) None no_number there no_name one is =
    port_range-output range read (found-output port_range (codes "portRange") value range read (rw (no_number, there) at is) there)
port_by value read None None (Some name) no_number no_range there one is =
    named_port-output name read (found-output named_port (codes "namedPort") value name read (rw (no_number, no_range) at is) there)
port_by value read (Some sole) (Some range) None sole_is range_is name_is one is = cc
port_by value read (Some sole) None (Some name) sole_is range_is name_is one is = cc
port_by value read None (Some range) (Some name) sole_is range_is name_is one is = cc
port_by value read (Some sole) (Some range) (Some name) sole_is range_is name_is one is = cc

admin_port-output : (value : Data) (read : AdminPort) → admin_port value ≡ Ok read → IsAdminPort value read
unfolding admin_port
admin_port-output value read is =
    let past = then-output (must_be_object value) _ read is in
    let fits = has_one_of (codes "portNumber" ∷ codes "portRange" ∷ codes "namedPort" ∷ []) value in
    let one = not-false fits (unbroken-output (not fits) BadPort (admin_port_member value) read past) in
    let shaped = then-output (refuse_if (not fits) BadPort) (admin_port_member value) read past in
    port_by value read (member_of (codes "portNumber") value) (member_of (codes "portRange") value) (member_of (codes "namedPort") value) refl refl refl one shaped

-- ---- rules

named-text : (which : AdminKind) (s : List ℕ) (one : Action) → action_named which s ≡ Some one → s ≡ action_text one
named-text tier.Admin s one is = by (bytes_eq s (codes "Allow")) refl (bytes_eq s (codes "Deny")) refl (bytes_eq s (codes "Pass")) refl is
  where
    by : (allow : Bool) → bytes_eq s (codes "Allow") ≡ allow → (deny : Bool) → bytes_eq s (codes "Deny") ≡ deny → (pass : Bool) → bytes_eq s (codes "Pass") ≡ pass →
        cond allow (Some Allow) (cond deny (Some Deny) (cond pass (Some Pass) None)) ≡ Some one → s ≡ action_text one
    by true here deny other pass third is =
        let same : one ≡ Allow = cc in
        (bytes_decides s (codes "Allow")).0 here ∙ ap action_text (sym same)
    by false here true other pass third is =
        let same : one ≡ Deny = cc in
        (bytes_decides s (codes "Deny")).0 other ∙ ap action_text (sym same)
    by false here false other true third is =
        let same : one ≡ Pass = cc in
        (bytes_decides s (codes "Pass")).0 third ∙ ap action_text (sym same)
    by false here false other false third is = cc
named-text tier.Baseline s one is = by (bytes_eq s (codes "Allow")) refl (bytes_eq s (codes "Deny")) refl is
  where
    by : (allow : Bool) → bytes_eq s (codes "Allow") ≡ allow → (deny : Bool) → bytes_eq s (codes "Deny") ≡ deny →
        cond allow (Some Allow) (cond deny (Some Deny) None) ≡ Some one → s ≡ action_text one
    by true here deny other is =
        let same : one ≡ Allow = cc in
        (bytes_decides s (codes "Allow")).0 here ∙ ap action_text (sym same)
    by false here true other is =
        let same : one ≡ Deny = cc in
        (bytes_decides s (codes "Deny")).0 other ∙ ap action_text (sym same)
    by false here false other is = cc

action-output : (which : AdminKind) (value : Data) (one : Action) → action which value ≡ Ok one → as_str value ≡ Some (action_text one)
unfolding action
action-output which value one is =
    let read = bind-output (text value) (λ s. or_refuse BadAction (action_named which s)) one is in
    of_type-output (as_str value) read.first read.here ∙ ap Some (named-text which read.first one (or_refuse-output BadAction (action_named which read.first) one read.after))

action_at-output : (which : AdminKind) (value : Data) (one : Action) → required (codes "action") (action which) value ≡ Ok one → text_at (codes "action") value ≡ action_text one
action_at-output which value one is =
    let member = required-output (action which) (codes "action") value one is in
    rw (member.there, action-output which member.found one member.read) refl

ingress_rule-output : (which : AdminKind) (value : Data) (read : AdminRule) → admin_rule which Ingress value ≡ Ok read → IsIngressRule value read
unfolding admin_rule admin_peers
ingress_rule-output which value read is =
    let past = then-output (must_be_object value) _ read is in
    let one = bind-output (required (codes "action") (action which) value) _ read past in
    let peers = bind-output (admin_peers Ingress value) _ read one.after in
    let ports = bind-output (listed (codes "ports") admin_port value) (λ ports. Ok (record { action = one.first; peers = peers.first; ports = ports })) read peers.after in
    let made : record { action = one.first; peers = peers.first; ports = ports.first } ≡ read = let after = ports.after in cc in
    let list = bind-output (listed (codes "from") (admin_peer Ingress) value) (λ peers. refuse_member_if (codes "from") (length peers == 0) EmptyPeers >> Ok peers) peers.first peers.here in
    let end = then-output (refuse_member_if (codes "from") (length list.first == 0) EmptyPeers) (Ok list.first) peers.first list.after in
    let same : list.first ≡ peers.first = cc in
    subst (IsIngressRule value) made (record {
      action = action_at-output which value one.first one.here;
      peers = subst (AreEach IsIngressPeer (items_at (codes "from") value)) same (AreEach-listed (admin_peer Ingress) IsIngressPeer ingress_peer-output (codes "from") value list.first list.here);
      ports = AreEach-listed admin_port IsAdminPort admin_port-output (codes "ports") value ports.first ports.here;
    })

egress_rule-output : (which : AdminKind) (value : Data) (read : AdminRule) → admin_rule which Egress value ≡ Ok read → IsEgressRule value read
unfolding admin_rule admin_peers
egress_rule-output which value read is =
    let past = then-output (must_be_object value) _ read is in
    let one = bind-output (required (codes "action") (action which) value) _ read past in
    let peers = bind-output (admin_peers Egress value) _ read one.after in
    let ports = bind-output (listed (codes "ports") admin_port value) (λ ports. Ok (record { action = one.first; peers = peers.first; ports = ports })) read peers.after in
    let made : record { action = one.first; peers = peers.first; ports = ports.first } ≡ read = let after = ports.after in cc in
    let list = bind-output (listed (codes "to") (admin_peer Egress) value) (λ peers. refuse_member_if (codes "to") (length peers == 0) EmptyPeers >> Ok peers) peers.first peers.here in
    let end = then-output (refuse_member_if (codes "to") (length list.first == 0) EmptyPeers) (Ok list.first) peers.first list.after in
    let same : list.first ≡ peers.first = cc in
    subst (IsEgressRule value) made (record {
      action = action_at-output which value one.first one.here;
      peers = subst (AreEach IsEgressPeer (items_at (codes "to") value)) same (AreEach-listed (admin_peer Egress) IsEgressPeer egress_peer-output (codes "to") value list.first list.here);
      ports = AreEach-listed admin_port IsAdminPort admin_port-output (codes "ports") value ports.first ports.here;
    })

-- ---- policies

priority-whole : (value : Data) (n : ℕ) → priority value ≡ Ok n → as_whole value ≡ Some (pos n)
unfolding priority
priority-whole value n is =
    let read = bind-output (whole value) priority_number n is in
    of_type-output (as_whole value) read.first read.here ∙ ap Some (by read.first read.after)
  where
    within : (m : ℕ) (b : Bool) → cond b (Ok m) (refuse BadPriority) ≡ Ok n → pos m ≡ pos n
    within m true is = let same : m ≡ n = cc in ap pos same
    within m false is = cc

    by : (z : ℤ) → priority_number z ≡ Ok n → z ≡ pos n
    by (pos m) is = within m (nat_le m 1000) is
    by (negsuc m) is = cc

object_name-output : (value : Data) (s : List ℕ) → object_name value ≡ Ok s → text_at (codes "name") value ≡ s
unfolding object_name
object_name-output value s is =
    let named = then-output (must_be_object value) (required (codes "name") name value) s is in
    text_at-output name name-output (codes "name") value s named

base_name-output : (value : Data) (s : List ℕ) → base_name value ≡ Ok s → text_at (codes "name") value ≡ codes "default"
unfolding base_name
base_name-output value s is =
    let read = bind-output (object_name value) (λ s. refuse_member_if (codes "name") (not (bytes_eq s (codes "default"))) BaselineName >> Ok s) s is in
    let is_default = not-false (bytes_eq read.first (codes "default"))
    (unbroken_member-output (codes "name") (not (bytes_eq read.first (codes "default"))) BaselineName (Ok read.first) s read.after) in
    object_name-output value read.first read.here ∙ (bytes_decides read.first (codes "default")).0 is_default

rules-output : (which : AdminKind) (value : Data) (pods : Subject) (ingress egress : List AdminRule) → required (codes "subject") subject value ≡ Ok pods → admin_rules which Ingress value ≡ Ok ingress →
    admin_rules which Egress value ≡ Ok egress → IsAdminSpec value pods ingress egress
unfolding admin_rules
rules-output which value pods ingress egress pods_are ingress_is egress_is = record {
  subject = subject-output (object_at (codes "subject") value) pods (object_at-output subject (codes "subject") value pods pods_are);
  ingress = AreEach-listed (admin_rule which Ingress) IsIngressRule (ingress_rule-output which) (codes "ingress") value ingress ingress_is;
  egress = AreEach-listed (admin_rule which Egress) IsEgressRule (egress_rule-output which) (codes "egress") value egress egress_is;
}

-- what the spec of an AdminNetworkPolicy says
record IsSpecRead (value : Data) (read : AdminSpec) : Type 0 where
  pub priority : number_at (codes "priority") value ≡ Some (pos read.priority)
  pub spec : IsAdminSpec value read.subject read.ingress read.egress

admin_spec-output : (value : Data) (read : AdminSpec) → admin_spec value ≡ Ok read → IsSpecRead value read
unfolding admin_spec
admin_spec-output value read is =
    let past = then-output (must_be_object value) _ read is in
    let rank = bind-output (required (codes "priority") priority value) _ read past in
    let pods = bind-output (required (codes "subject") subject value) _ read rank.after in
    let ingress = bind-output (admin_rules tier.Admin Ingress value) _ read pods.after in
    let egress = bind-output (admin_rules tier.Admin Egress value)
    (λ egress. Ok (record { priority = rank.first; subject = pods.first; ingress = ingress.first; egress = egress })) read ingress.after in
    let made : record { priority = rank.first; subject = pods.first; ingress = ingress.first; egress = egress.first } ≡ read = let after = egress.after in cc in
    subst (IsSpecRead value) made (record {
      priority = number_at-output priority priority-whole (codes "priority") value rank.first rank.here;
      spec = rules-output tier.Admin value pods.first ingress.first egress.first pods.here ingress.here egress.here;
    })

pub admin_policy-meant : (value : Data) (read : AdminPolicy) → policy_of value ≡ Ok (Some (policy.Admin read)) → IsAdminPolicyOf value read
unfolding admin_policy
admin_policy-meant value read is =
    let by_kind = admin-read value read is in
    let s = bind-output (required (codes "metadata") object_name value) _ read by_kind.1 in
    let spec = bind-output (required (codes "spec") admin_spec value)
    (λ spec. Ok (record { name = s.first; priority = spec.priority; subject = spec.subject; ingress = spec.ingress; egress = spec.egress })) read s.after in
    let one = spec.first in
    let made : record { name = s.first; priority = one.priority; subject = one.subject; ingress = one.ingress; egress = one.egress } ≡ read = let after = spec.after in cc in
    let parts = admin_spec-output (spec_of value) one (object_at-output admin_spec (codes "spec") value one spec.here) in
    subst (IsAdminPolicyOf value) made (record {
      kind = by_kind.0;
      name = object_name-output (object_at (codes "metadata") value) s.first (object_at-output object_name (codes "metadata") value s.first s.here);
      priority = parts.priority;
      spec = parts.spec;
    })

base_spec-output : (value : Data) (read : BasePolicy) → base_spec value ≡ Ok read → IsAdminSpec value read.subject read.ingress read.egress
unfolding base_spec
base_spec-output value read is =
    let past = then-output (must_be_object value) _ read is in
    let pods = bind-output (required (codes "subject") subject value) _ read past in
    let ingress = bind-output (admin_rules tier.Baseline Ingress value) _ read pods.after in
    let egress = bind-output (admin_rules tier.Baseline Egress value) (λ egress. Ok (record { subject = pods.first; ingress = ingress.first; egress = egress })) read ingress.after in
    let made : record { subject = pods.first; ingress = ingress.first; egress = egress.first } ≡ read = let after = egress.after in cc in
    subst (λ (one : BasePolicy). IsAdminSpec value one.subject one.ingress one.egress) made (rules-output tier.Baseline value pods.first ingress.first egress.first pods.here ingress.here egress.here)

pub base_policy-meant : (value : Data) (read : BasePolicy) → policy_of value ≡ Ok (Some (policy.Base read)) → IsBasePolicyOf value read
unfolding base_policy
base_policy-meant value read is =
    let by_kind = base-read value read is in
    let named = bind-output (required (codes "metadata") base_name value) (λ _. required (codes "spec") base_spec value) read
    (through (required (codes "metadata") base_name value) (required (codes "spec") base_spec value) by_kind.1) in
    record {
      kind = by_kind.0;
      name = base_name-output (object_at (codes "metadata") value) named.first (object_at-output base_name (codes "metadata") value named.first named.here);
      spec = base_spec-output (spec_of value) read (object_at-output base_spec (codes "spec") value read named.after);
    }
  where
    through : {A : Type 0} (first : Read A) (rest : Read BasePolicy) → (first >> rest) ≡ Ok read → (first >>= λ _. rest) ≡ Ok read
    through (Ok one) rest is = is
    through (Err flaw) rest is = is
