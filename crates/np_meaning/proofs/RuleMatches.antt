-- What peers, port entries and rules match is what the references say of them.
-- For `admin_peers_stand_for_pods_or_networks`, `admin_port_entries_match_ranges_or_names` and 6 more.
use Rattle.std.proofs.Common.{◌≡◌, ◌==◌, ◌∙◌, ◌&&◌, ◌||◌, ℕ, zero, suc, List, [], ◌∷◌, nat_le, not, Bool, true, false, Contains, Option, Some, None, arith, refl, sym, subst, inl, inr}
use Rattle.std.proofs.lemmas.Bool.{and_from, and_parts, eq-eqb, eqb-true, false_from_ne_true, false≢true, le-leb, leb-true, not-true, not_from_false, or_left, or_right, true≢false}
use Rattle.std.proofs.lemmas.Bool.Decides.{Decides-and, Decides-like}
use Rattle.std.specs.Bool.{Decides}
use Rattle.std.specs.Cmp.Lexicographic.{bytes_decides}
use Rattle.std.specs.List.{list_any}
use Rattle.std.specs.Str.{bytes_eq}
use Rattle.np_addr.specs.Prelude.{block_has, cidr_has, family_of, some_block_has}
use Rattle.np_conns.specs.Prelude.{same_proto}
use Rattle.np_conns.specs.declared.proto.Proto.TheVariants as proto
use Rattle.np_labels.specs.Prelude.{meets_selector}
use Rattle.np_meaning.specs.RuleMeaning.{IsAddressOfBlock, IsInNetworks, IsInSpan, IsOfAdminPeer, IsOfAdminPort, IsOfAdminRule, IsOfNetPeer, IsOfNetPort, IsOfNetRule, IsOfSome, IsOfSomeOrFree, IsPodOfPeer, IsPodOfPolicy, IsPodOfSubject, IsPortNamed, Selects}
use Rattle.np_meaning.specs.Types.{Address, AdminPeer, AdminPort, AdminRule, Cidr, Family, NamedPort, NetPeer, NetPolicy, NetPort, NetRule, PortSpot, Proto, Selector, Subject}
use Rattle.np_addr.specs.declared.address.Family.TheVariants as family
use Rattle.np_model.specs.Prelude.{is_of, same_family}
use Rattle.np_model.specs.declared.admin_policy.AdminPeer.TheVariants as admin
use Rattle.np_model.specs.declared.admin_policy.AdminPort.TheVariants as admin_port
use Rattle.np_model.specs.declared.network_policy.NetPeer.TheVariants as net
use Rattle.np_model.specs.declared.network_policy.NetPort.TheVariants as net_port
use Rattle.np_rules.specs.Prelude.{Contact, ModelEnd, PodEnd, address, admin_entry_matches, admin_peer_matches, admin_rule_matches, has_named, in_span, is_named, net_entry_matches, net_peer_matches, net_rule_matches, net_selects, none_or_any, pod, pods_match, subject_selects}

-- ---- some item

module _ {X : Type 0} (test : X → Bool) (Is : X → Type 0) (each : (x : X) → Decides (test x) (Is x)) where
  some-to : (xs : List X) → list_any test xs ≡ true → IsOfSome Is xs
  some-to [] is = absurd (false≢true is)
  some-to (x ∷ xs) is = by (test x) refl is (some-to xs)
    where
      by : (b : Bool) → test x ≡ b → (b || list_any test xs) ≡ true → (list_any test xs ≡ true → IsOfSome Is xs) → IsOfSome Is (x ∷ xs)
      by true here is later = (x, (0, omega arith, refl), (each x).0 here)
      by false here is later = let rest = later is in (rest.0, (suc rest.1.0, omega (arith, rest.1.1), rest.1.2), rest.2)

  some-from : (xs : List X) → IsOfSome Is xs → list_any test xs ≡ true
  some-from [] (x, has, is) = absurd (omega (arith, has.1))
  some-from (y ∷ ys) (x, (zero, within, same), is) = or_left (test y) (list_any test ys) ((each y).1 (subst Is (sym same) is))
  some-from (y ∷ ys) (x, (suc k, within, same), is) = or_right (test y) (list_any test ys) (some-from ys (x, (k, omega (arith, within), same), is))

  some-Decides : (xs : List X) → Decides (list_any test xs) (IsOfSome Is xs)
  some-Decides xs = (some-to xs, some-from xs)

  free-Decides : (xs : List X) → Decides (none_or_any test xs) (IsOfSomeOrFree Is xs)
  free-Decides [] = (λ is. inl refl, λ free. refl)
  free-Decides (x ∷ xs) = (λ is. inr (some-to (x ∷ xs) is), back)
    where
      back : IsOfSomeOrFree Is (x ∷ xs) → list_any test (x ∷ xs) ≡ true
      back (inl none) = cc
      back (inr some) = some-from (x ∷ xs) some

-- a test is what it is
itself : (b : Bool) → Decides b (b ≡ true)
itself b = (λ is. is, λ is. is)

not_some : {X : Type 0} {x : X} {A : Type 0} → Option.None ≡ Some x → A
not_some is = absurd (cc)

some_same : {X : Type 0} {x y : X} → Some x ≡ Some y → x ≡ y
some_same is = cc

-- ---- whom policies select

pub net_selects-Decides : (policy : NetPolicy) (p : PodEnd) → Decides (net_selects policy p) (IsPodOfPolicy policy p)
net_selects-Decides policy p =
    Decides-like (net_selects policy p) (λ both. record { namespace = sym both.0; labels = both.1 }) (λ is. (sym is.namespace, is.labels))
    (Decides-and (bytes_eq policy.namespace p.namespace) (meets_selector policy.subject p.labels) (bytes_decides policy.namespace p.namespace) (itself (meets_selector policy.subject p.labels)))

pub subject_selects-Decides : (subject : Subject) (p : PodEnd) → Decides (subject_selects subject p) (IsPodOfSubject subject p)
subject_selects-Decides subject p = (
  λ is. let parts = and_parts (meets_selector subject.namespaces p.namespace_labels) (meets_selector subject.pods p.labels) is in record { namespace = parts.0; labels = parts.1 },
  λ is. and_from (meets_selector subject.namespaces p.namespace_labels) (meets_selector subject.pods p.labels) is.namespace is.labels,
)

-- ---- peers of NetworkPolicies

pods_match-to : (own : List ℕ) (namespaces pods : Option Selector) (p : PodEnd) → pods_match own namespaces pods p ≡ true → IsPodOfPeer own namespaces pods p
pods_match-to own None None p is = absurd (false≢true is)
pods_match-to own None (Some pods) p is =
    let parts = and_parts (bytes_eq own p.namespace) (meets_selector pods p.labels) is in record {
      some = λ none none'. not_some (sym none');
      own = λ none. sym ((bytes_decides own p.namespace).0 parts.0);
      namespace = λ selector some. not_some some;
      labels = λ selector some. subst (λ (one : Selector). Selects one p.labels) (some_same some) parts.1;
    }
pods_match-to own (Some namespaces) None p is = record {
  some = λ none none'. not_some (sym none);
  own = λ none. not_some (sym none);
  namespace = λ selector some. subst (λ (one : Selector). Selects one p.namespace_labels) (some_same some) is;
  labels = λ selector some. not_some some;
}
pods_match-to own (Some namespaces) (Some pods) p is =
    let parts = and_parts (meets_selector namespaces p.namespace_labels) (meets_selector pods p.labels) is in record {
      some = λ none none'. not_some (sym none);
      own = λ none. not_some (sym none);
      namespace = λ selector some. subst (λ (one : Selector). Selects one p.namespace_labels) (some_same some) parts.0;
      labels = λ selector some. subst (λ (one : Selector). Selects one p.labels) (some_same some) parts.1;
    }

pods_match-from : (own : List ℕ) (namespaces pods : Option Selector) (p : PodEnd) → IsPodOfPeer own namespaces pods p → pods_match own namespaces pods p ≡ true
pods_match-from own None None p is = absurd (is.some refl refl)
pods_match-from own None (Some pods) p is =
    and_from (bytes_eq own p.namespace) (meets_selector pods p.labels) ((bytes_decides own p.namespace).1 (sym (is.own refl))) (is.labels pods refl)
pods_match-from own (Some namespaces) None p is = is.namespace namespaces refl
pods_match-from own (Some namespaces) (Some pods) p is =
    and_from (meets_selector namespaces p.namespace_labels) (meets_selector pods p.labels) (is.namespace namespaces refl) (is.labels pods refl)

block_has-to : (cidr : Cidr) (excepts : List Cidr) (a : Address) → block_has cidr excepts a ≡ true → IsAddressOfBlock cidr excepts a
block_has-to cidr excepts a is =
    let covers : Cidr → Bool = λ except. cidr_has except a in
    let parts = and_parts (cidr_has cidr a) (not (list_any covers excepts)) is in
    let none = not-true (list_any covers excepts) parts.1 in record {
      inside = parts.0;
      outside = λ except has. false_from_ne_true (covers except) (λ covered. true≢false (sym (some-from covers (λ one. covers one ≡ true) (λ one. itself (covers one)) excepts (except, has, covered)) ∙ none));
    }

block_has-from : (cidr : Cidr) (excepts : List Cidr) (a : Address) → IsAddressOfBlock cidr excepts a → block_has cidr excepts a ≡ true
block_has-from cidr excepts a is =
    let covers : Cidr → Bool = λ except. cidr_has except a in
    let none = false_from_ne_true (list_any covers excepts) (λ some.
    let one = some-to covers (λ one. covers one ≡ true) (λ one. itself (covers one)) excepts some in
    true≢false (sym one.2 ∙ is.outside one.0 one.1)) in
    and_from (cidr_has cidr a) (not (list_any covers excepts)) is.inside (not_from_false (list_any covers excepts) none)

same_pod : {p q : PodEnd} → pod p ≡ pod q → p ≡ q
same_pod is = cc

same_address : {a b : Address} → address a ≡ address b → a ≡ b
same_address is = cc

no_address : {p : PodEnd} {a : Address} {A : Type 0} → pod p ≡ address a → A
no_address is = absurd (cc)

pub net_peer-Decides : (own : List ℕ) (peer : NetPeer) (far : ModelEnd) → Decides (net_peer_matches own peer far) (IsOfNetPeer own peer far)
net_peer-Decides own (net.Pods namespaces pods) (pod p) = (
  λ is. (p, refl, pods_match-to own namespaces pods p is),
  λ some. pods_match-from own namespaces pods p (subst (IsPodOfPeer own namespaces pods) (sym (same_pod some.1)) some.2),
)
net_peer-Decides own (net.Pods namespaces pods) (address a) = (λ is. absurd (false≢true is), λ some. no_address (sym some.1))
net_peer-Decides own (net.Block cidr excepts) (pod p) = (λ is. absurd (false≢true is), λ some. no_address some.1)
net_peer-Decides own (net.Block cidr excepts) (address a) = (
  λ is. (a, refl, block_has-to cidr excepts a is),
  λ some. block_has-from cidr excepts a (subst (IsAddressOfBlock cidr excepts) (sym (same_address some.1)) some.2),
)

-- ---- peers of admin policies

same_family-Decides : (one other : Family) → Decides (same_family one other) (one ≡ other)
same_family-Decides family.Four family.Four = (λ is. refl, λ same. refl)
same_family-Decides family.Six family.Six = (λ is. refl, λ same. refl)
same_family-Decides family.Four family.Six = (λ is. absurd (false≢true is), λ same. absurd (cc))
same_family-Decides family.Six family.Four = (λ is. absurd (false≢true is), λ same. absurd (cc))

networks-Decides : (cidrs : List Cidr) (a : Address) → Decides (some_block_has cidrs a) (IsOfSome (λ network. cidr_has network a ≡ true) cidrs)
networks-Decides cidrs a = some-Decides (λ network. cidr_has network a) (λ network. cidr_has network a ≡ true) (λ network. itself (cidr_has network a)) cidrs

-- an address is of the family, and in one of the networks
abbrev IsAddressIn : List Cidr → Family → Address → Type 0
IsAddressIn cidrs family a = (family_of a ≡ family) × IsOfSome (λ network. cidr_has network a ≡ true) cidrs

addresses-Decides : (cidrs : List Cidr) (family : Family) (p : PodEnd) → Decides (list_any (λ a. is_of family a && some_block_has cidrs a) p.addresses) (IsOfSome (IsAddressIn cidrs family) p.addresses)
addresses-Decides cidrs family p =
    some-Decides (λ a. is_of family a && some_block_has cidrs a) (IsAddressIn cidrs family)
    (λ a. Decides-and (is_of family a) (some_block_has cidrs a) (same_family-Decides (family_of a) family) (networks-Decides cidrs a)) p.addresses

pub admin_peer-Decides : (peer : AdminPeer) (far : ModelEnd) (family : Family) → Decides (admin_peer_matches peer far family) (IsOfAdminPeer peer far family)
admin_peer-Decides (admin.Pods namespaces pods) (pod p) family = (to, from)
  where
    to : (meets_selector namespaces p.namespace_labels && meets_selector pods p.labels) ≡ true → IsOfAdminPeer (admin.Pods namespaces pods) (pod p) family
    to is = let parts = and_parts (meets_selector namespaces p.namespace_labels) (meets_selector pods p.labels) is in (p, refl, parts.0, parts.1)

    from : IsOfAdminPeer (admin.Pods namespaces pods) (pod p) family → (meets_selector namespaces p.namespace_labels && meets_selector pods p.labels) ≡ true
    from (q, same, one, other) =
        let is = same_pod same in
        and_from (meets_selector namespaces p.namespace_labels) (meets_selector pods p.labels)
        (subst (λ (end : PodEnd). Selects namespaces end.namespace_labels) (sym is) one) (subst (λ (end : PodEnd). Selects pods end.labels) (sym is) other)
admin_peer-Decides (admin.Pods namespaces pods) (address a) family = (λ is. absurd (false≢true is), λ some. no_address (sym some.1))
admin_peer-Decides (admin.Networks cidrs) (pod p) family = (to, from)
  where
    to : list_any (λ a. is_of family a && some_block_has cidrs a) p.addresses ≡ true → IsInNetworks cidrs (pod p) family
    to is =
        let some = (addresses-Decides cidrs family p).0 is in
        record { a = some.0; its = (some.1, some.2.0); network = some.2.1.0; among = some.2.1.1; inside = some.2.1.2 }

    from : IsInNetworks cidrs (pod p) family → list_any (λ a. is_of family a && some_block_has cidrs a) p.addresses ≡ true
    from is = (addresses-Decides cidrs family p).1 (is.a, is.its.0, (is.its.1, (is.network, is.among, is.inside)))
admin_peer-Decides (admin.Networks cidrs) (address a) family = (to, from)
  where
    to : some_block_has cidrs a ≡ true → IsInNetworks cidrs (address a) family
    to is =
        let some = (networks-Decides cidrs a).0 is in
        record { a = a; its = refl; network = some.0; among = some.1; inside = some.2 }

    from : IsInNetworks cidrs (address a) family → some_block_has cidrs a ≡ true
    from is = (networks-Decides cidrs a).1 (is.network, is.among, subst (λ (one : Address). cidr_has is.network one ≡ true) (sym is.its) is.inside)

-- ---- ports

same_proto-Decides : (one other : Proto) → Decides (same_proto one other) (one ≡ other)
same_proto-Decides proto.Tcp proto.Tcp = (λ is. refl, λ same. refl)
same_proto-Decides proto.Udp proto.Udp = (λ is. refl, λ same. refl)
same_proto-Decides proto.Sctp proto.Sctp = (λ is. refl, λ same. refl)
same_proto-Decides proto.Tcp proto.Udp = (λ is. absurd (false≢true is), λ same. absurd (cc))
same_proto-Decides proto.Tcp proto.Sctp = (λ is. absurd (false≢true is), λ same. absurd (cc))
same_proto-Decides proto.Udp proto.Tcp = (λ is. absurd (false≢true is), λ same. absurd (cc))
same_proto-Decides proto.Udp proto.Sctp = (λ is. absurd (false≢true is), λ same. absurd (cc))
same_proto-Decides proto.Sctp proto.Tcp = (λ is. absurd (false≢true is), λ same. absurd (cc))
same_proto-Decides proto.Sctp proto.Udp = (λ is. absurd (false≢true is), λ same. absurd (cc))

in_span-Decides : (proto : Proto) (first last : ℕ) (spot : PortSpot) → Decides (in_span proto first last spot) (IsInSpan proto first last spot)
in_span-Decides proto first last spot = (to, from)
  where
    to : in_span proto first last spot ≡ true → IsInSpan proto first last spot
    to is =
        let parts = and_parts (same_proto spot.proto proto) (nat_le first spot.port && nat_le spot.port last) is in
        let both = and_parts (nat_le first spot.port) (nat_le spot.port last) parts.1 in
        record { proto = (same_proto-Decides spot.proto proto).0 parts.0; above = leb-true first spot.port both.0; below = leb-true spot.port last both.1 }

    from : IsInSpan proto first last spot → in_span proto first last spot ≡ true
    from is =
        and_from (same_proto spot.proto proto) (nat_le first spot.port && nat_le spot.port last) ((same_proto-Decides spot.proto proto).1 is.proto)
        (and_from (nat_le first spot.port) (nat_le spot.port last) (le-leb first spot.port is.above) (le-leb spot.port last is.below))

-- a container port has the name, and is that of the packet
abbrev IsSpot : List ℕ → PortSpot → NamedPort → Type 0
IsSpot name spot port = (port.name ≡ name) × ((spot.proto ≡ port.proto) × (spot.port ≡ port.number))

is_named-Decides : (name : List ℕ) (spot : PortSpot) (port : NamedPort) → Decides (is_named name spot port) (IsSpot name spot port)
is_named-Decides name spot port =
    Decides-and (bytes_eq port.name name) (same_proto spot.proto port.proto && (spot.port == port.number)) (bytes_decides port.name name)
    (Decides-and (same_proto spot.proto port.proto) (spot.port == port.number) (same_proto-Decides spot.proto port.proto) (eqb-true spot.port port.number, eq-eqb spot.port port.number))

has_named-Decides : (name : List ℕ) (destination : ModelEnd) (spot : PortSpot) → Decides (has_named name spot destination) (IsPortNamed name destination spot)
has_named-Decides name (address a) spot = (λ is. absurd (false≢true is), λ some. no_address (sym some.its))
has_named-Decides name (pod p) spot = (to, from)
  where
    to : list_any (is_named name spot) p.ports ≡ true → IsPortNamed name (pod p) spot
    to is =
        let some = some-to (is_named name spot) (IsSpot name spot) (is_named-Decides name spot) p.ports is in
        record { p = p; its = refl; port = some.0; among = some.1; called = some.2.0; proto = sym some.2.1.0; number = sym some.2.1.1 }

    from : IsPortNamed name (pod p) spot → list_any (is_named name spot) p.ports ≡ true
    from is =
        let has = subst (λ (end : PodEnd). Contains end.ports is.port) (sym (same_pod is.its)) is.among in
        some-from (is_named name spot) (IsSpot name spot) (is_named-Decides name spot) p.ports (is.port, has, (is.called, (sym is.proto, sym is.number)))

pub net_entry-Decides : (entry : NetPort) (destination : ModelEnd) (spot : PortSpot) → Decides (net_entry_matches entry destination spot) (IsOfNetPort entry destination spot)
net_entry-Decides (net_port.Span proto first last) destination spot = in_span-Decides proto first last spot
net_entry-Decides (net_port.Named proto name) destination spot =
    Decides-and (same_proto spot.proto proto) (has_named name spot destination) (same_proto-Decides spot.proto proto) (has_named-Decides name destination spot)

pub admin_entry-Decides : (entry : AdminPort) (destination : ModelEnd) (spot : PortSpot) → Decides (admin_entry_matches entry destination spot) (IsOfAdminPort entry destination spot)
admin_entry-Decides (admin_port.Span proto first last) destination spot = in_span-Decides proto first last spot
admin_entry-Decides (admin_port.Named name) destination spot = has_named-Decides name destination spot

-- ---- rules

pub net_rule-Decides : (own : List ℕ) (rule : NetRule) (contact : Contact) → Decides (net_rule_matches own rule contact) (IsOfNetRule own rule contact)
net_rule-Decides own rule contact =
    let peer : NetPeer → Bool = λ one. net_peer_matches own one contact.far in
    let entry : NetPort → Bool = λ one. net_entry_matches one contact.destination contact.spot in
    Decides-like (net_rule_matches own rule contact) (λ both. record { peers = both.0; ports = both.1 }) (λ is. (is.peers, is.ports))
    (Decides-and (none_or_any peer rule.peers) (none_or_any entry rule.ports)
    (free-Decides peer (λ one. IsOfNetPeer own one contact.far) (λ one. net_peer-Decides own one contact.far) rule.peers)
    (free-Decides entry (λ one. IsOfNetPort one contact.destination contact.spot) (λ one. net_entry-Decides one contact.destination contact.spot) rule.ports))

pub admin_rule-Decides : (rule : AdminRule) (contact : Contact) → Decides (admin_rule_matches rule contact) (IsOfAdminRule rule contact)
admin_rule-Decides rule contact =
    let peer : AdminPeer → Bool = λ one. admin_peer_matches one contact.far contact.family in
    let entry : AdminPort → Bool = λ one. admin_entry_matches one contact.destination contact.spot in
    Decides-like (admin_rule_matches rule contact) (λ both. record { peers = both.0; ports = both.1 }) (λ is. (is.peers, is.ports))
    (Decides-and (list_any peer rule.peers) (none_or_any entry rule.ports)
    (some-Decides peer (λ one. IsOfAdminPeer one contact.far contact.family) (λ one. admin_peer-Decides one contact.far contact.family) rule.peers)
    (free-Decides entry (λ one. IsOfAdminPort one contact.destination contact.spot) (λ one. admin_entry-Decides one contact.destination contact.spot) rule.ports))
