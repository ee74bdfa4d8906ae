-- The parts of a policy are written in UTF-8, and are read of their texts. For ListLemmas.
use Rattle.std.proofs.Common.{◌≡◌, ℕ, suc, ◌≤◌, List, [], ◌∷◌, ◌++◌, Bool, true, false, ◌&&◌, ◌||◌, ◌==◌, nat_le, is_none, is_some, map, IsUtf8, Option, Some, None, codes, if◌then◌else◌, option_map, refl, arith}
use Rattle.std.proofs.lemmas.Bool.{and_parts, leb-true}
use Rattle.std.specs.List.{AllByRecursion, list_all}
use Rattle.json.proofs.Printed.Utf8.{IsUtf8-are_ascii}
use Rattle.serde_json.specs.Data.{Data, number, string, unsigned}
use Rattle.np_written.specs.Values.{list_with}
use Rattle.np_base.proofs.Each.{All-append}
use Rattle.np_addr.specs.Prelude.{first_bad_except}
use Rattle.np_command_flatten.specs.Prelude.{Absent, Block, Cidr, Direction, Egress, Ingress, Named, NetPeer, NetPolicy, NetPort, NetRule, NoneOf, OneOf, Op, Pods, Present, Proto, Requirement, Sctp, Selector, Span, Tcp, Udp, are_printable_rules, is_printable, is_printable_block, is_printable_peer, is_printable_port, is_printable_rule}
use Rattle.np_addr.specs.declared.cidr.Cidr.TheVariants as cidr
use Rattle.np_conns.specs.Prelude.{proto_name}
use Rattle.np_model.specs.Prelude.{is_name, is_whole_word, is_word, is_worded, option_all}
use Rattle.np_labels.specs.WellFormed as well
use Rattle.np_model.specs.WellPolicies.{is_well_selector}
use Rattle.np_manifests.specs.Manifests as manifests
use Rattle.np_manifests.specs.Members.{if_given, if_some}
use Rattle.np_command_flatten.proofs.ReadableLemmas.{are_names, AllReadable, Entry, IsReadable, deeper, list-readable, number-readable, object-readable, string-readable}
use Rattle.np_command_flatten.proofs.RuleReads.{block-well, key-parts}
use Rattle.np_command_flatten.proofs.ShapeLemmas.{all-mapped, all-passed}
use Rattle.np_command_flatten.proofs.TextLemmas.{block-utf8, name-utf8, word-utf8}

-- ---- members

entries-append : (most : ℕ) (entries others : List Entry) → AllReadable most entries → AllReadable most others → AllReadable most (entries ++ others)
entries-append most entries others first second = All-append (λ (entry : Entry). IsReadable most entry.1) entries others first second

-- a list of what is readable
mapped-readable : {X : Type 0} (most : ℕ) (test : X → Bool) (f : X → Data) → ((x : X) → test x ≡ true → IsReadable most (f x)) → (xs : List X) → list_all test xs ≡ true →
    IsReadable (suc most) (list_with (map f xs))
mapped-readable most test f each xs all = list-readable most (map f xs) (all-mapped (IsReadable most) f xs (all-passed test (λ x. IsReadable most (f x)) each xs all))

some-readable : {X : Type 0} (most : ℕ) (name : List ℕ) (test : X → Bool) (f : X → Data) → ((x : X) → test x ≡ true → IsReadable most (f x)) → (xs : List X) → list_all test xs ≡ true →
    AllReadable (suc most) (if_some name (map f xs))
some-readable most name test f each [] all = tt
some-readable most name test f each (x ∷ xs) all = (mapped-readable most test f each (x ∷ xs) all, tt)

given-readable : {X : Type 0} (most : ℕ) (name : List ℕ) (test : X → Bool) (f : X → Data) → ((x : X) → test x ≡ true → IsReadable most (f x)) → (o : Option X) → option_all test o ≡ true →
    AllReadable most (if_given name (option_map f o))
given-readable most name test f each None is = tt
given-readable most name test f each (Some x) is = (each x is, tt)

-- ---- selectors

operator-utf8 : (op : Op) → IsUtf8 (manifests.operator op)
operator-utf8 OneOf = IsUtf8-are_ascii _ refl
operator-utf8 NoneOf = IsUtf8-are_ascii _ refl
operator-utf8 Present = IsUtf8-are_ascii _ refl
operator-utf8 Absent = IsUtf8-are_ascii _ refl

expression-names : (of_key of_operator : Data) (values : List Data) → are_names ((codes "key", of_key) ∷ (codes "operator", of_operator) ∷ if_some (codes "values") values) ≡ true
expression-names of_key of_operator [] = refl
expression-names of_key of_operator (value ∷ values) = refl

expression-readable : (one : Requirement) → is_worded one ≡ true → IsReadable 2 (manifests.expression_data one)
expression-readable one words =
    let parts = and_parts (is_whole_word one.key) (list_all is_word one.values) words in
    let entries : List Entry = (codes "key", string one.key) ∷ (codes "operator", string (manifests.operator one.op)) ∷ if_some (codes "values") (map string one.values) in
    object-readable 1 entries (expression-names (string one.key) (string (manifests.operator one.op)) (map string one.values)) (
      string-readable 1 one.key (word-utf8 one.key (key-parts one.key parts.0).1),
      (string-readable 1 (manifests.operator one.op) (operator-utf8 one.op), some-readable 0 (codes "values") is_word string (λ s is. string-readable 0 s (word-utf8 s is)) one.values parts.1),
    )

selector-names : (values : List Data) → are_names (if_some (codes "matchExpressions") values) ≡ true
selector-names [] = refl
selector-names (value ∷ values) = refl

selector-readable : (one : Selector) → is_well_selector one ≡ true → IsReadable 4 (manifests.selector_data one)
selector-readable one is =
    let parts = and_parts (well.has_well_requirements one) (list_all is_worded one.requirements) is in
    object-readable 3 _ (selector-names (map manifests.expression_data one.requirements))
    (some-readable 2 (codes "matchExpressions") is_worded manifests.expression_data expression-readable one.requirements parts.1)

-- ---- ports

proto-utf8 : (one : Proto) → IsUtf8 (proto_name one)
proto-utf8 Tcp = IsUtf8-are_ascii _ refl
proto-utf8 Udp = IsUtf8-are_ascii _ refl
proto-utf8 Sctp = IsUtf8-are_ascii _ refl

span-readable : (of : Proto) (lo hi : ℕ) → lo ≤ hi → hi ≤ 65535 → IsReadable 5 (manifests.span of lo hi)
span-readable of lo hi above most = object-readable 4 _ (names (lo == hi)) (ends (lo == hi))
  where
    rest : List Entry
    rest = (codes "port", number (unsigned lo)) ∷ (codes "protocol", string (proto_name of)) ∷ []

    names : (b : Bool) → are_names ((if b then [] else (codes "endPort", number (unsigned hi)) ∷ []) ++ rest) ≡ true
    names true = refl
    names false = refl

    first : AllReadable 4 rest
    first = (number-readable 4 lo (omega arith), (string-readable 4 (proto_name of) (proto-utf8 of), tt))

    ends : (b : Bool) → AllReadable 4 ((if b then [] else (codes "endPort", number (unsigned hi)) ∷ []) ++ rest)
    ends true = first
    ends false = (number-readable 4 hi (omega arith), first)

port-readable : (one : NetPort) → is_printable_port one ≡ true → IsReadable 5 (manifests.port_data one)
port-readable (Span of lo hi) is =
    let parts = and_parts (nat_le 1 lo && nat_le lo hi) (nat_le hi 65535) is in
    span-readable of lo hi (leb-true lo hi (and_parts (nat_le 1 lo) (nat_le lo hi) parts.0).1) (leb-true hi 65535 parts.1)
port-readable (Named of name) is =
    let entries : List Entry = (codes "port", string name) ∷ (codes "protocol", string (proto_name of)) ∷ [] in
    object-readable 4 entries refl (string-readable 4 name (word-utf8 name (key-parts name is).1), (string-readable 4 (proto_name of) (proto-utf8 of), tt))

-- ---- peers

block-readable : (most : ℕ) (one : Cidr) → is_printable_block one ≡ true → IsReadable most (manifests.block_data one)
block-readable most (cidr.Four base len) is = string-readable most _ (block-utf8 (cidr.Four base len) (let of = (block-well (cidr.Four base len) is).1 in omega arith))
block-readable most (cidr.Six base len) is = string-readable most _ (block-utf8 (cidr.Six base len) (let of = (block-well (cidr.Six base len) is).1 in omega arith))

block-names : (of_cidr : Data) (values : List Data) → are_names ((codes "cidr", of_cidr) ∷ if_some (codes "except") values) ≡ true
block-names of_cidr [] = refl
block-names of_cidr (value ∷ values) = refl

pods-names : (namespaces pods : Option Data) → are_names (if_given (codes "namespaceSelector") namespaces ++ if_given (codes "podSelector") pods) ≡ true
pods-names None None = refl
pods-names None (Some pods) = refl
pods-names (Some namespaces) None = refl
pods-names (Some namespaces) (Some pods) = refl

peer-readable : (one : NetPeer) → is_printable_peer one ≡ true → IsReadable 5 (manifests.peer one)
peer-readable (Pods namespaces pods) is =
    let second = and_parts _ (option_all is_well_selector pods) is in
    let first = and_parts (is_some namespaces || is_some pods) (option_all is_well_selector namespaces) second.0 in
    object-readable 4 _ (pods-names (option_map manifests.selector_data namespaces) (option_map manifests.selector_data pods))
    (entries-append 4 _ _ (given-readable 4 (codes "namespaceSelector") is_well_selector manifests.selector_data selector-readable namespaces first.1)
    (given-readable 4 (codes "podSelector") is_well_selector manifests.selector_data selector-readable pods second.1))
peer-readable (Block block excepts) is =
    let parts = and_parts (is_printable_block block && list_all is_printable_block excepts) (is_none (first_bad_except block excepts)) is in
    let blocks = and_parts (is_printable_block block) (list_all is_printable_block excepts) parts.0 in
    let entries : List Entry = (codes "cidr", manifests.block_data block) ∷ if_some (codes "except") (map manifests.block_data excepts) in
    let inner = object-readable 3 entries (block-names (manifests.block_data block) (map manifests.block_data excepts))
    (block-readable 3 block blocks.0, some-readable 2 (codes "except") is_printable_block manifests.block_data (block-readable 2) excepts blocks.1) in
    object-readable 4 ((codes "ipBlock", manifests.ip_block_data block excepts) ∷ []) refl (inner, tt)

-- ---- rules

from-names : (peers ports : List Data) → are_names (if_some (codes "from") peers ++ if_some (codes "ports") ports) ≡ true
from-names [] [] = refl
from-names [] (port ∷ ports) = refl
from-names (peer ∷ peers) [] = refl
from-names (peer ∷ peers) (port ∷ ports) = refl

to-names : (peers ports : List Data) → are_names (if_some (codes "ports") ports ++ if_some (codes "to") peers) ≡ true
to-names [] [] = refl
to-names [] (port ∷ ports) = refl
to-names (peer ∷ peers) [] = refl
to-names (peer ∷ peers) (port ∷ ports) = refl

rule-readable : (direction : Direction) (one : NetRule) → is_printable_rule one ≡ true → IsReadable 7 (manifests.rule_data direction one)
rule-readable direction one is = by direction
  where
    parts : (list_all is_printable_peer one.peers ≡ true) × (list_all is_printable_port one.ports ≡ true)
    parts = and_parts (list_all is_printable_peer one.peers) (list_all is_printable_port one.ports) is

    peers : (name : List ℕ) → AllReadable 6 (if_some name (map manifests.peer one.peers))
    peers name = some-readable 5 name is_printable_peer manifests.peer peer-readable one.peers parts.0

    ports : AllReadable 6 (if_some (codes "ports") (map manifests.port_data one.ports))
    ports = some-readable 5 (codes "ports") is_printable_port manifests.port_data port-readable one.ports parts.1

    by : (d : Direction) → IsReadable 7 (manifests.rule_data d one)
    by Ingress = object-readable 6 _ (from-names (map manifests.peer one.peers) (map manifests.port_data one.ports)) (entries-append 6 _ _ (peers (codes "from")) ports)
    by Egress = object-readable 6 _ (to-names (map manifests.peer one.peers) (map manifests.port_data one.ports)) (entries-append 6 _ _ ports (peers (codes "to")))

rules-readable : (direction : Direction) (all : List NetRule) → list_all is_printable_rule all ≡ true → IsReadable 8 (manifests.rules direction all)
rules-readable direction all is = mapped-readable 7 is_printable_rule (manifests.rule_data direction) (rule-readable direction) all is

-- ---- policies

types-readable : (ingress egress : Bool) → IsReadable 8 (list_with (manifests.type_if ingress (codes "Ingress") ++ manifests.type_if egress (codes "Egress")))
types-readable ingress egress = list-readable 7 _ (by ingress egress)
  where
    named : IsReadable 7 (string (codes "Ingress")) × IsReadable 7 (string (codes "Egress"))
    named = (string-readable 7 (codes "Ingress") (IsUtf8-are_ascii _ refl), string-readable 7 (codes "Egress") (IsUtf8-are_ascii _ refl))

    by : (a b : Bool) → AllByRecursion (IsReadable 7) (manifests.type_if a (codes "Ingress") ++ manifests.type_if b (codes "Egress"))
    by true true = (named.0, (named.1, tt))
    by true false = (named.0, tt)
    by false true = (named.1, tt)
    by false false = tt

spec-names : (egress ingress : Option Data) (subject types : Data) →
    are_names (if_given (codes "egress") egress ++ if_given (codes "ingress") ingress ++ (codes "podSelector", subject) ∷ (codes "policyTypes", types) ∷ []) ≡ true
spec-names None None subject types = refl
spec-names None (Some ingress) subject types = refl
spec-names (Some egress) None subject types = refl
spec-names (Some egress) (Some ingress) subject types = refl

pub policy-readable : (one : NetPolicy) → is_printable one ≡ true → IsReadable 10 (manifests.policy one)
policy-readable one is =
    let egress = and_parts _ (are_printable_rules one.egress) is in
    let ingress = and_parts _ (are_printable_rules one.ingress) egress.0 in
    let some = and_parts _ (is_some one.ingress || is_some one.egress) ingress.0 in
    let subject = and_parts _ (is_well_selector one.subject) some.0 in
    let names = and_parts (is_name one.namespace) (is_name one.name) subject.0 in
    let of_egress = given-readable 8 (codes "egress") (λ all. list_all is_printable_rule all) (manifests.rules Egress) (rules-readable Egress) one.egress egress.1 in
    let of_ingress = given-readable 8 (codes "ingress") (λ all. list_all is_printable_rule all) (manifests.rules Ingress) (rules-readable Ingress) one.ingress ingress.1 in
    let of_subject = deeper 4 8 (manifests.selector_data one.subject) (omega arith) (selector-readable one.subject subject.1) in
    let spec = object-readable 8 _ (spec-names (option_map (manifests.rules Egress) one.egress) (option_map (manifests.rules Ingress) one.ingress) (manifests.selector_data one.subject)
    (manifests.types one))
    (entries-append 8 (if_given (codes "egress") (option_map (manifests.rules Egress) one.egress) ++ if_given (codes "ingress") (option_map (manifests.rules Ingress) one.ingress)) _
    (entries-append 8 _ _ of_egress of_ingress) (of_subject, (types-readable (is_some one.ingress) (is_some one.egress), tt))) in
    let metadata_entries : List Entry = (codes "name", string one.name) ∷ (codes "namespace", string one.namespace) ∷ [] in
    let metadata = object-readable 8 metadata_entries refl (string-readable 8 one.name (name-utf8 one.name names.1), (string-readable 8 one.namespace (name-utf8 one.namespace names.0), tt)) in
    let entries : List Entry = (codes "apiVersion", string (codes "networking.k8s.io/v1")) ∷ (codes "kind", string (codes "NetworkPolicy")) ∷ (codes "metadata", manifests.metadata one) ∷
    (codes "spec", manifests.spec one) ∷ [] in
    object-readable 9 entries refl (
      string-readable 9 (codes "networking.k8s.io/v1") (IsUtf8-are_ascii _ refl),
      (string-readable 9 (codes "NetworkPolicy") (IsUtf8-are_ascii _ refl), (metadata, (spec, tt))),
    )
