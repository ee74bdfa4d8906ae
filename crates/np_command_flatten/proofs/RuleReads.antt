-- Ports, peers and rules are read as they are. For PolicyReads and PrintedLemmas.
use Rattle.std.proofs.Common.{◌≡◌, ℕ, ◌-◌, ◌%◌, ◌^◌, ◌≤◌, List, [], ◌∷◌, ◌++◌, Bool, true, false, not, ◌&&◌, ◌==◌, nat_le, nat_lt, is_none, length, map, Option, Some, None, Ok, codes, if◌then◌else◌, refl, ap, arith, eqb-true, le-leb, lt-ltb}
use Rattle.std.proofs.lemmas.Bool.{and_parts, leb-true, ltb-true, not-true}
use Rattle.std.specs.List.{AllByRecursion, list_all}
use Rattle.serde_json.specs.Data.{Data, number, string, unsigned}
use Rattle.np_addr.proofs.CanonicalLemmas.{cidr_of-cidr_text}
use Rattle.np_addr.specs.Prelude.{IsAddress, IsCidr, base_of, first_bad_except}
use Rattle.np_command_flatten.specs.Prelude.{Block, Cidr, Direction, Egress, Four, Ingress, Named, NetPeer, NetPort, NetRule, Pods, Proto, Sctp, Selector, Six, Span, Tcp, Udp, is_printable_block, is_printable_peer, is_printable_port, is_printable_rule}
use Rattle.np_conns.specs.Prelude.{proto_name}
use Rattle.np_json.specs.Prelude.{listed, member_of, must_be_object, optional, port, protocol_name, refuse_if, required, under}
use Rattle.np_written.specs.Values.{object_with}
use Rattle.np_json.proofs.ReadLemmas.{port-read}
use Rattle.np_model.specs.Prelude.{is_well_cidr, is_whole_word, is_word}
use Rattle.np_policies.specs.Prelude.{cidr, container_port_name, end_port, ip_block, net_peer, net_port, net_rule, port_value, protocol, selector}
use Rattle.np_model.specs.WellPolicies.{is_well_selector}
use Rattle.np_manifests.specs.Manifests as manifests
use Rattle.np_manifests.specs.Members.{if_some}
use Rattle.np_command_flatten.proofs.SelectorReads.{selector-read}
use Rattle.np_command_flatten.proofs.ShapeLemmas.{all-passed, optional-none, optional-read, required-read, some-read, some_member}

-- ---- ports

protocol_name-read : (one : Proto) → protocol_name (string (proto_name one)) ≡ Ok one
unfolding protocol_name
protocol_name-read Tcp = refl
protocol_name-read Udp = refl
protocol_name-read Sctp = refl

protocol-read : (one : Proto) (value : Data) → member_of (codes "protocol") value ≡ Some (string (proto_name one)) → protocol value ≡ Ok one
unfolding protocol
protocol-read one value there = rw (optional-read (codes "protocol") protocol_name value (string (proto_name one)) one there (protocol_name-read one)) refl

span-read : (of : Proto) (lo hi : ℕ) → 1 ≤ lo → lo ≤ hi → hi ≤ 65535 → net_port (manifests.span of lo hi) ≡ Ok (Span of lo hi)
unfolding net_port must_be_object refuse_if optional under port_value end_port
span-read of lo hi least above most = by (lo == hi) refl
  where
    rest : List (List ℕ × Data)
    rest = (codes "port", number (unsigned lo)) ∷ (codes "protocol", string (proto_name of)) ∷ []

    by : (b : Bool) → (lo == hi) ≡ b → net_port (object_with ((if b then [] else (codes "endPort", number (unsigned hi)) ∷ []) ++ rest)) ≡ Ok (Span of lo hi)
    by true same =
        let one : Span of lo lo ≡ Span of lo hi = ap (Span of lo) (eqb-true lo hi same) in
        rw (protocol-read of (object_with rest) refl, lt-ltb lo (2 ^ 63) (omega arith), le-leb 1 lo least, le-leb lo 65535 (omega arith)) (ap Ok one)
    by false apart =
        rw (
          protocol-read of (object_with ((codes "endPort", number (unsigned hi)) ∷ rest)) refl,
          lt-ltb lo (2 ^ 63) (omega arith),
          le-leb 1 lo least,
          le-leb lo 65535 (omega arith),
          port-read hi (omega arith) most,
          le-leb lo hi above,
        ) refl

pub key-parts : (s : List ℕ) → is_whole_word s ≡ true → ((length s == 0) ≡ false) × (is_word s ≡ true)
key-parts s key = let parts = and_parts (not (length s == 0)) (is_word s) key in (not-true (length s == 0) parts.0, parts.1)

port_entry-read : (one : NetPort) → is_printable_port one ≡ true → net_port (manifests.port_data one) ≡ Ok one
unfolding net_port must_be_object refuse_if optional under port_value container_port_name
port_entry-read (Span of lo hi) is =
    let parts = and_parts (nat_le 1 lo && nat_le lo hi) (nat_le hi 65535) is in
    let low = and_parts (nat_le 1 lo) (nat_le lo hi) parts.0 in
    span-read of lo hi (leb-true 1 lo low.0) (leb-true lo hi low.1) (leb-true hi 65535 parts.1)
port_entry-read (Named of name) is =
    let parts = key-parts name is in
    rw (protocol-read of (manifests.port_data (Named of name)) refl, parts.0, parts.1) refl

-- ---- peers

pub block-well : (one : Cidr) → is_printable_block one ≡ true → IsAddress (base_of one) × IsCidr one
block-well (Four base len) is =
    let parts = and_parts (nat_lt base (2 ^ 32)) (is_well_cidr (Four base len)) is in
    let cidr = and_parts (nat_le len 32) (base % 2 ^ (32 - len) == 0) parts.1 in
    (ltb-true base (2 ^ 32) parts.0, (leb-true len 32 cidr.0, eqb-true (base % 2 ^ (32 - len)) 0 cidr.1))
block-well (Six base len) is =
    let parts = and_parts (nat_lt base (2 ^ 128)) (is_well_cidr (Six base len)) is in
    let cidr = and_parts (nat_le len 128) (base % 2 ^ (128 - len) == 0) parts.1 in
    (ltb-true base (2 ^ 128) parts.0, (leb-true len 128 cidr.0, eqb-true (base % 2 ^ (128 - len)) 0 cidr.1))

block-read : (one : Cidr) → is_printable_block one ≡ true → cidr (manifests.block_data one) ≡ Ok one
unfolding cidr
block-read one is =
    let well = block-well one is in
    rw (cidr_of-cidr_text one well.0 well.1) refl

excepts-member : (of_cidr : Data) (values : List Data) → member_of (codes "except") (object_with ((codes "cidr", of_cidr) ∷ if_some (codes "except") values)) ≡ some_member values
excepts-member of_cidr [] = refl
excepts-member of_cidr (value ∷ values) = refl

ip_block-read : (block : Cidr) (excepts : List Cidr) → is_printable_peer (Block block excepts) ≡ true → ip_block (manifests.ip_block_data block excepts) ≡ Ok (record { cidr = block; excepts = excepts })
unfolding ip_block must_be_object refuse_if
ip_block-read block excepts is =
    let parts = and_parts (is_printable_block block && list_all is_printable_block excepts) (is_none (first_bad_except block excepts)) is in
    let blocks = and_parts (is_printable_block block) (list_all is_printable_block excepts) parts.0 in
    let value = manifests.ip_block_data block excepts in
    let first : required (codes "cidr") cidr value ≡ Ok block = required-read (codes "cidr") cidr value (manifests.block_data block) block refl (block-read block blocks.0) in
    let others : listed (codes "except") cidr value ≡ Ok excepts =
    some-read (codes "except") cidr manifests.block_data value excepts (excepts-member (manifests.block_data block) (map manifests.block_data excepts))
    (all-passed is_printable_block (λ one. cidr (manifests.block_data one) ≡ Ok one) block-read excepts blocks.1) in
    let none : first_bad_except block excepts ≡ None = by (first_bad_except block excepts) parts.1 in
    rw (first, others, none) refl
  where
    by : (found : Option ℕ) → is_none found ≡ true → found ≡ None
    by None is = refl
    by (Some place) is = cc

pods-read : (namespaces pods : Option Selector) → is_printable_peer (Pods namespaces pods) ≡ true → net_peer (manifests.pods namespaces pods) ≡ Ok (Pods namespaces pods)
unfolding net_peer must_be_object refuse_if
pods-read None None is = cc
pods-read (Some namespaces) None is =
    let wells = and_parts true (is_well_selector namespaces) (and_parts (is_well_selector namespaces) true is).0 in
    let value = manifests.pods (Some namespaces) None in
    rw (
      optional-none (codes "podSelector") selector value refl,
      optional-read (codes "namespaceSelector") selector value (manifests.selector_data namespaces) namespaces refl (selector-read namespaces wells.1),
      optional-none (codes "ipBlock") ip_block value refl,
    ) refl
pods-read None (Some pods) is =
    let value = manifests.pods None (Some pods) in
    rw (
      optional-read (codes "podSelector") selector value (manifests.selector_data pods) pods refl (selector-read pods is),
      optional-none (codes "namespaceSelector") selector value refl,
      optional-none (codes "ipBlock") ip_block value refl,
    ) refl
pods-read (Some namespaces) (Some pods) is =
    let wells = and_parts (is_well_selector namespaces) (is_well_selector pods) is in
    let value = manifests.pods (Some namespaces) (Some pods) in
    rw (
      optional-read (codes "podSelector") selector value (manifests.selector_data pods) pods refl (selector-read pods wells.1),
      optional-read (codes "namespaceSelector") selector value (manifests.selector_data namespaces) namespaces refl (selector-read namespaces wells.0),
      optional-none (codes "ipBlock") ip_block value refl,
    ) refl

peer-read : (one : NetPeer) → is_printable_peer one ≡ true → net_peer (manifests.peer one) ≡ Ok one
unfolding net_peer must_be_object refuse_if
peer-read (Pods namespaces pods) is = pods-read namespaces pods is
peer-read (Block block excepts) is =
    let value = manifests.peer (Block block excepts) in
    rw (
      optional-none (codes "podSelector") selector value refl,
      optional-none (codes "namespaceSelector") selector value refl,
      optional-read (codes "ipBlock") ip_block value (manifests.ip_block_data block excepts) (record { cidr = block; excepts = excepts }) refl (ip_block-read block excepts is),
    ) refl

-- ---- rules

from-member : (peers ports : List Data) →
    (member_of (codes "from") (object_with (if_some (codes "from") peers ++ if_some (codes "ports") ports)) ≡ some_member peers) ×
    (member_of (codes "ports") (object_with (if_some (codes "from") peers ++ if_some (codes "ports") ports)) ≡ some_member ports)
from-member [] [] = (refl, refl)
from-member [] (port ∷ ports) = (refl, refl)
from-member (peer ∷ peers) [] = (refl, refl)
from-member (peer ∷ peers) (port ∷ ports) = (refl, refl)

to-member : (peers ports : List Data) →
    (member_of (codes "to") (object_with (if_some (codes "ports") ports ++ if_some (codes "to") peers)) ≡ some_member peers) ×
    (member_of (codes "ports") (object_with (if_some (codes "ports") ports ++ if_some (codes "to") peers)) ≡ some_member ports)
to-member [] [] = (refl, refl)
to-member [] (port ∷ ports) = (refl, refl)
to-member (peer ∷ peers) [] = (refl, refl)
to-member (peer ∷ peers) (port ∷ ports) = (refl, refl)

pub rule-read : (direction : Direction) (one : NetRule) → is_printable_rule one ≡ true → net_rule direction (manifests.rule_data direction one) ≡ Ok one
unfolding net_rule must_be_object refuse_if
rule-read direction one is = by direction
  where
    parts : (list_all is_printable_peer one.peers ≡ true) × (list_all is_printable_port one.ports ≡ true)
    parts = and_parts (list_all is_printable_peer one.peers) (list_all is_printable_port one.ports) is

    peers : AllByRecursion (λ peer. net_peer (manifests.peer peer) ≡ Ok peer) one.peers
    peers = all-passed is_printable_peer (λ peer. net_peer (manifests.peer peer) ≡ Ok peer) peer-read one.peers parts.0

    ports : AllByRecursion (λ port. net_port (manifests.port_data port) ≡ Ok port) one.ports
    ports = all-passed is_printable_port (λ port. net_port (manifests.port_data port) ≡ Ok port) port_entry-read one.ports parts.1

    by : (d : Direction) → net_rule d (manifests.rule_data d one) ≡ Ok one
    by Ingress =
        let value = manifests.rule_data Ingress one in
        let members = from-member (map manifests.peer one.peers) (map manifests.port_data one.ports) in
        rw (some-read (codes "from") net_peer manifests.peer value one.peers members.0 peers, some-read (codes "ports") net_port manifests.port_data value one.ports members.1 ports) refl
    by Egress =
        let value = manifests.rule_data Egress one in
        let members = to-member (map manifests.peer one.peers) (map manifests.port_data one.ports) in
        rw (some-read (codes "to") net_peer manifests.peer value one.peers members.0 peers, some-read (codes "ports") net_port manifests.port_data value one.ports members.1 ports) refl
