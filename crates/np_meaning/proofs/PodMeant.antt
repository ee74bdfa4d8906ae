-- A pod and a namespace that were read are what their members say. For `namespaces_mean_their_members` and `pods_mean_their_members`.
use Rattle.std.proofs.Common.{◌≡◌, ℕ, pos, List, [], ◌∷◌, ◌++◌, length, Bool, true, false, cond, ◌||◌, ◌==◌, fold, Option, Some, None, option_map, unwrap_or, codes, Ok, refl, sym, ap, subst, ◌∙◌, arith}
use Rattle.std.specs.Prelude.{IfOk, filter}
use Rattle.std.specs.List.{filter_map, flat_map, list_any}
use Rattle.std.specs.Option.{option_flatten}
use Rattle.std.proofs.lemmas.Bool.Decides.{nat_tests}
use Rattle.std.proofs.lemmas.List.Folds.{list_any-append}
use Rattle.std.proofs.Math.Bool.{or_assoc, or-false}
use Rattle.serde_json.specs.Data.{Data, object, no_members}
use Rattle.serde_json.specs.Find.{as_str}
use Rattle.np_addr.specs.Prelude.{address_of}
use Rattle.np_meaning.specs.Prelude.{Address, AreLabelsOf, BadAddress, BadProtocol, Four, IsContainerPort, IsNamespaceOf, IsPodOf, IsReadOf, NamedPort, NamespaceItem, PodItem, Proto, Six, Tcp, has_name, is_address, is_final, is_text_empty, is_true_at, list_at, named_ports, number_at, object_at, protocol_of, says_address, text_at}
use Rattle.np_conns.specs.Prelude.{proto_named}
use Rattle.np_json.specs.Prelude.{flag, given, listed, member_of, must_be_object, name, namespaced_name, optional, or_refuse, port, protocol_name, required, text, word}
use Rattle.np_meaning.proofs.MetaMeant.{labels-meant, namespaced_name-meant, IsOwn}
use Rattle.np_meaning.proofs.Outputs.{OutputOf, optional-output, each-output, number_at-required, is_true_at-optional, text_at-optional, text-output}
use Rattle.np_meaning.proofs.MemberReads.{text_at-output, word-output, object_at-output, name-output}
use Rattle.np_policies.proofs.ReadLemmas.{bind-output, then-output}
use Rattle.np_objects.specs.Prelude.{address, address_by, container, container_port, distinct_addresses, has_address, if_named, is_finished, is_same_address, kept_with, label_map, namespace_metadata, namespace_object, no_status, owner_reference, pod, pod_ip, pod_item, pod_metadata, pod_spec, pod_status, port_name, unless_empty}
use Rattle.np_meaning.specs.EachPod.{AreEach}

-- what the members of a pod are read as, each for itself
abbrev PodMetadata : Type 0
PodMetadata = OutputOf pod_metadata

abbrev PodSpec : Type 0
PodSpec = OutputOf pod_spec

abbrev PodStatus : Type 0
PodStatus = OutputOf pod_status

-- ---- named ports

some-not_empty : (byte : ℕ) (bytes : List ℕ) → (length (byte ∷ bytes) == 0) ≡ false
some-not_empty byte bytes = grind (arith, nat_tests)

-- a text, or none where it is empty
abbrev pub IsTextOr : List ℕ → Option (List ℕ) → Type 0
IsTextOr s None = s ≡ []
IsTextOr s (Some found) = (s ≡ found) × (is_text_empty s ≡ false)

unless_empty-is : (s : List ℕ) → IsTextOr s (unless_empty s)
unless_empty-is [] = refl
unless_empty-is (byte ∷ bytes) = subst (λ b. IsTextOr (byte ∷ bytes) (cond b None (Some (byte ∷ bytes)))) (sym (some-not_empty byte bytes)) (refl, refl)

pub port_name-output : (value : Data) (found : Option (List ℕ)) → port_name value ≡ Ok found → IsTextOr (unwrap_or (as_str value) []) found
unfolding port_name
port_name-output value found is =
    let read = bind-output (word value) (λ s. Ok (unless_empty s)) found is in
    let same : unless_empty read.first ≡ found = let after = read.after in cc in
    rw (word-output value read.first read.here) (subst (IsTextOr read.first) same (unless_empty-is read.first))

pub port_name-meant : (value : Data) (found : Option (Option (List ℕ))) → optional (codes "name") port_name value ≡ Ok found → IsTextOr (text_at (codes "name") value) (option_flatten found)
port_name-meant value found is = by (member_of (codes "name") value) found (optional-output port_name (codes "name") value found is)
  where
    by : (member : Option Data) (found : Option (Option (List ℕ))) → IsReadOf port_name member found → IsTextOr (unwrap_or (as_str (unwrap_or member (object no_members))) []) (option_flatten found)
    by None None is = refl
    by None (Some s) is = absurd is
    by (Some one) None is = absurd is
    by (Some one) (Some s) is = port_name-output one s is

protocol_name-output : (value : Data) (read : Proto) → protocol_name value ≡ Ok read → unwrap_or (proto_named (unwrap_or (as_str value) [])) Tcp ≡ read
unfolding protocol_name
protocol_name-output value read is =
    let s = bind-output (text value) (λ s. or_refuse BadProtocol (proto_named s)) read is in
    rw (text-output value s.first s.here) (by (proto_named s.first) s.after)
  where
    by : (found : Option Proto) → or_refuse BadProtocol found ≡ Ok read → unwrap_or found Tcp ≡ read
    by None is = cc
    by (Some other) is = cc

pub protocol-meant : (value : Data) (found : Option Proto) → optional (codes "protocol") protocol_name value ≡ Ok found → protocol_of value ≡ unwrap_or found Tcp
protocol-meant value found is = by (member_of (codes "protocol") value) found (optional-output protocol_name (codes "protocol") value found is)
  where
    by : (member : Option Data) (found : Option Proto) → IsReadOf protocol_name member found →
        unwrap_or (proto_named (unwrap_or (as_str (unwrap_or member (object no_members))) [])) Tcp ≡ unwrap_or found Tcp
    by None None is = refl
    by None (Some read) is = absurd is
    by (Some one) None is = absurd is
    by (Some one) (Some read) is = protocol_name-output one read is

-- a port, or none where it has no name
abbrev IsPortOr : Data → Option NamedPort → Type 0
IsPortOr value None = has_name value ≡ false
IsPortOr value (Some port) = (has_name value ≡ true) × IsContainerPort value port

container_port-meant : (value : Data) (read : Option NamedPort) → container_port value ≡ Ok read → IsPortOr value read
unfolding container_port
container_port-meant value read is =
    let past = then-output (must_be_object value) _ read is in
    let called = bind-output (optional (codes "name") port_name value) _ read past in
    let proto = bind-output (optional (codes "protocol") protocol_name value) _ read called.after in
    let number = bind-output (required (codes "containerPort") port value) (λ number. Ok (if_named (option_flatten called.first) (unwrap_or proto.first Tcp) number)) read proto.after in
    let made : if_named (option_flatten called.first) (unwrap_or proto.first Tcp) number.first ≡ read = let after = number.after in cc in
    subst (IsPortOr value) made (by (option_flatten called.first) (unwrap_or proto.first Tcp) number.first (port_name-meant value called.first called.here)
    (protocol-meant value proto.first proto.here) (number_at-required (codes "containerPort") value number.first number.here))
  where
    by : (found : Option (List ℕ)) (proto : Proto) (number : ℕ) → IsTextOr (text_at (codes "name") value) found → protocol_of value ≡ proto →
        number_at (codes "containerPort") value ≡ Some (pos number) → IsPortOr value (if_named found proto number)
    by None proto number none said at = rw none refl
    by (Some s) proto number some said at = (rw some.1 refl, record { name = some.0; proto = said; number = at })

named-each : (values : List Data) (ports : List (Option NamedPort)) → AreEach IsPortOr values ports → AreEach IsContainerPort (filter has_name values) (filter_map (λ port. port) ports)
named-each [] [] are = tt
named-each [] (port ∷ ports) are = absurd are
named-each (value ∷ values) [] are = absurd are
named-each (value ∷ values) (None ∷ ports) are =
    subst (λ b. AreEach IsContainerPort (cond b (value ∷ filter has_name values) (filter has_name values)) (filter_map (λ port. port) ports)) (sym are.0) (named-each values ports are.1)
named-each (value ∷ values) (Some port ∷ ports) are =
    subst (λ b. AreEach IsContainerPort (cond b (value ∷ filter has_name values) (filter has_name values)) (port ∷ filter_map (λ port. port) ports)) (sym are.0.0)
    (are.0.1, named-each values ports are.1)

container-meant : (value : Data) (ports : List NamedPort) → container value ≡ Ok ports → AreEach IsContainerPort (filter has_name (list_at (codes "ports") value)) ports
unfolding container
container-meant value ports is =
    let past = then-output (must_be_object value) _ ports is in
    let each = bind-output (listed (codes "ports") container_port value) (λ each. Ok (filter_map (λ port. port) each)) ports past in
    let made : filter_map (λ port. port) each.first ≡ ports = let after = each.after in cc in
    subst (AreEach IsContainerPort (filter has_name (list_at (codes "ports") value))) made
    (named-each (list_at (codes "ports") value) each.first (each-output container_port IsPortOr container_port-meant (codes "ports") value each.first each.here))

pub AreEach-append : {A : Type 0} (Is : Data → A → Type 0) (values more : List Data) (xs ys : List A) → AreEach Is values xs → AreEach Is more ys → AreEach Is (values ++ more) (xs ++ ys)
AreEach-append Is [] more [] ys are others = others
AreEach-append Is [] more (x ∷ xs) ys are others = absurd are
AreEach-append Is (value ∷ values) more [] ys are others = absurd are
AreEach-append Is (value ∷ values) more (x ∷ xs) ys are others = (are.0, AreEach-append Is values more xs ys are.1 others)

-- one list after another
pub AreEach-flat_map : {A : Type 0} (Is : Data → A → Type 0) (inside : Data → List Data) (values : List Data) (lists : List (List A)) →
    AreEach (λ value xs. AreEach Is (inside value) xs) values lists → AreEach Is (flat_map inside values) (flat_map (λ xs. xs) lists)
AreEach-flat_map Is inside [] [] are = tt
AreEach-flat_map Is inside [] (xs ∷ lists) are = absurd are
AreEach-flat_map Is inside (value ∷ values) [] are = absurd are
AreEach-flat_map Is inside (value ∷ values) (xs ∷ lists) are = AreEach-append Is (inside value) (flat_map inside values) xs (flat_map (λ xs. xs) lists) are.0
    (AreEach-flat_map Is inside values lists are.1)

-- what the spec of a pod says
pub record IsSpec (value : Data) (spec : PodSpec) : Type 0 where
  pub ports : AreEach IsContainerPort (named_ports value) spec.ports
  pub host_network : spec.host_network ≡ is_true_at (codes "hostNetwork") value

pub pod_spec-meant : (value : Data) (spec : PodSpec) → pod_spec value ≡ Ok spec → IsSpec value spec
unfolding pod_spec
pod_spec-meant value spec is =
    let past = then-output (must_be_object value) _ spec is in
    let each = bind-output (listed (codes "containers") container value) _ spec past in
    let host = bind-output (optional (codes "hostNetwork") flag value) (λ host. Ok (record { ports = flat_map (λ ports. ports) each.first; host_network = unwrap_or host false })) spec each.after in
    let made : record { ports = flat_map (λ ports. ports) each.first; host_network = unwrap_or host.first false } ≡ spec = let after = host.after in cc in
    subst (IsSpec value) made (record {
      ports = AreEach-flat_map IsContainerPort (λ container. filter has_name (list_at (codes "ports") container)) (list_at (codes "containers") value) each.first
          (each-output container (λ d ports. AreEach IsContainerPort (filter has_name (list_at (codes "ports") d)) ports) container-meant (codes "containers") value each.first each.here);
      host_network = is_true_at-optional (codes "hostNetwork") value host.first host.here;
    })

-- ---- addresses

same-equal : (a b : Address) → is_same_address a b ≡ true → a ≡ b
same-equal (Four a) (Four b) is = let same : a ≡ b = grind (arith, nat_tests) in ap Four same
same-equal (Six a) (Six b) is = let same : a ≡ b = grind (arith, nat_tests) in ap Six same
same-equal (Four a) (Six b) is = cc
same-equal (Six a) (Four b) is = cc

-- whether what was read is an address
abbrev is_found : Address → Option Address → Bool
is_found address found = unwrap_or (option_map (λ other. is_same_address other address) found) false

kept_with-has : (kept : List Address) (found : Option Address) (address : Address) → has_address (kept_with kept found) address ≡ (has_address kept address || is_found address found)
kept_with-has kept None address = sym (or-false (has_address kept address))
kept_with-has kept (Some other) address = by (has_address kept other) refl (is_same_address other address) refl
  where
    by : (known : Bool) → has_address kept other ≡ known → (same : Bool) → is_same_address other address ≡ same →
        has_address (cond known kept (kept ++ other ∷ [])) address ≡ (has_address kept address || same)
    by true known true same =
        let it : has_address kept address ≡ true = ap (has_address kept) (sym (same-equal other address same)) ∙ known in
        rw it refl
    by true known false same = sym (or-false (has_address kept address))
    by false known same here = list_any-append (λ one. is_same_address one address) kept (other ∷ []) ∙ ap (λ b. has_address kept address || b) (or-false (is_same_address other address) ∙ here)

distinct-has : (kept : List Address) (found : List (Option Address)) (address : Address) →
    has_address (fold kept_with kept found) address ≡ (has_address kept address || list_any (is_found address) found)
distinct-has kept [] address = sym (or-false (has_address kept address))
distinct-has kept (one ∷ found) address =
    distinct-has (kept_with kept one) found address
    ∙ ap (λ b. b || list_any (is_found address) found) (kept_with-has kept one address)
    ∙ or_assoc (has_address kept address) (is_found address one) (list_any (is_found address) found)

address-output : (value : Data) (found : Option Address) → address value ≡ Ok found → (one : Address) → is_found one found ≡ is_address (unwrap_or (as_str value) []) one
unfolding address
address-output value found is one =
    let s = bind-output (text value) (λ s. address_by (unless_empty s)) found is in
    rw (text-output value s.first s.here) (by s.first s.after)
  where
    by_read : (read : Option Address) → given (or_refuse BadAddress read) ≡ Ok found → is_found one found ≡ is_found one read
    by_read None is = cc
    by_read (Some other) is = let same : found ≡ Some other = cc in rw same refl

    by : (s : List ℕ) → address_by (unless_empty s) ≡ Ok found → is_found one found ≡ is_address s one
    by [] is = let same : found ≡ None = cc in rw same refl
    by (byte ∷ bytes) is = by_read (address_of (byte ∷ bytes)) (rw (some-not_empty byte bytes) at is)

address-meant : (name : List ℕ) (value : Data) (found : Option (Option Address)) → optional name address value ≡ Ok found → (one : Address) →
    is_found one (option_flatten found) ≡ is_address (text_at name value) one
address-meant name value found is one = by (member_of name value) found (optional-output address name value found is)
  where
    by : (member : Option Data) (found : Option (Option Address)) → IsReadOf address member found →
        is_found one (option_flatten found) ≡ is_address (unwrap_or (as_str (unwrap_or member (object no_members))) []) one
    by None None is = refl
    by None (Some read) is = absurd is
    by (Some value) None is = absurd is
    by (Some value) (Some read) is = address-output value read is one

pod_ip-meant : (value : Data) (found : Option Address) → pod_ip value ≡ Ok found → (one : Address) → is_found one found ≡ is_address (text_at (codes "ip") value) one
unfolding pod_ip
pod_ip-meant value found is one =
    let past = then-output (must_be_object value) _ found is in
    let ip = bind-output (optional (codes "ip") address value) (λ ip. Ok (option_flatten ip)) found past in
    let made : option_flatten ip.first ≡ found = let after = ip.after in cc in
    rw (← made) (address-meant (codes "ip") value ip.first ip.here one)

any-found : (one : Address) (values : List Data) (found : List (Option Address)) →
    AreEach (λ value read. (one : Address) → is_found one read ≡ is_address (text_at (codes "ip") value) one) values found →
    list_any (is_found one) found ≡ list_any (λ value. is_address (text_at (codes "ip") value) one) values
any-found one [] [] are = refl
any-found one [] (read ∷ found) are = absurd are
any-found one (value ∷ values) [] are = absurd are
any-found one (value ∷ values) (read ∷ found) are = rw (are.0 one, any-found one values found are.1) refl

-- what the status of a pod says
record IsStatus (value : Data) (status : PodStatus) : Type 0 where
  pub addresses : (address : Address) → has_address status.addresses address ≡ says_address value address
  pub finished : status.finished ≡ is_final (text_at (codes "phase") value)

pod_status-meant : (value : Data) (status : PodStatus) → pod_status value ≡ Ok status → IsStatus value status
unfolding pod_status
pod_status-meant value status is =
    let past = then-output (must_be_object value) _ status is in
    let phase = bind-output (optional (codes "phase") text value) _ status past in
    let first = bind-output (optional (codes "podIP") address value) _ status phase.after in
    let others = bind-output (listed (codes "podIPs") pod_ip value)
    (λ others. Ok (record { finished = is_finished phase.first; addresses = distinct_addresses (option_flatten first.first ∷ others) })) status first.after in
    let made : record { finished = is_finished phase.first; addresses = distinct_addresses (option_flatten first.first ∷ others.first) } ≡ status = let after = others.after in cc in
    subst (IsStatus value) made (record {
      addresses = λ one. distinct-has [] (option_flatten first.first ∷ others.first) one
          ∙ rw (
            address-meant (codes "podIP") value first.first first.here one,
            any-found one (list_at (codes "podIPs") value) others.first
                (each-output pod_ip (λ d read. (one : Address) → is_found one read ≡ is_address (text_at (codes "ip") d) one) pod_ip-meant (codes "podIPs") value others.first others.here),
          ) refl;
      finished = by phase.first ∙ ap is_final (sym (text_at-optional (codes "phase") value phase.first phase.here));
    })
  where
    by : (phase : Option (List ℕ)) → is_finished phase ≡ is_final (unwrap_or phase [])
    by None = refl
    by (Some s) = refl

status-meant : (value : Data) (found : Option PodStatus) → optional (codes "status") pod_status value ≡ Ok found → IsStatus (object_at (codes "status") value) (unwrap_or found no_status)
status-meant value found is = by (member_of (codes "status") value) found (optional-output pod_status (codes "status") value found is)
  where
    by : (member : Option Data) (found : Option PodStatus) → IsReadOf pod_status member found → IsStatus (unwrap_or member (object no_members)) (unwrap_or found no_status)
    by None None is = record { addresses = λ one. refl; finished = refl }
    by None (Some status) is = absurd is
    by (Some one) None is = absurd is
    by (Some one) (Some status) is = pod_status-meant one status is

-- ---- pods and namespaces

record IsMetadata (value : Data) (metadata : PodMetadata) : Type 0 where
  pub own : IsOwn value metadata.own
  pub labels : AreLabelsOf value metadata.labels

pod_metadata-meant : (value : Data) (metadata : PodMetadata) → pod_metadata value ≡ Ok metadata → IsMetadata value metadata
unfolding pod_metadata
pod_metadata-meant value metadata is =
    let own = bind-output (namespaced_name value) _ metadata is in
    let labels = bind-output (optional (codes "labels") label_map value) _ metadata own.after in
    let references = bind-output (listed (codes "ownerReferences") owner_reference value) _ metadata labels.after in
    subst (λ read. IfOk read (IsMetadata value)) references.after (record { own = namespaced_name-meant value own.first own.here; labels = labels-meant value labels.first labels.here })

pub pod-meant : (value : Data) (read : PodItem) → pod value ≡ Ok read → IsPodOf value read
unfolding pod
pod-meant value read is =
    let metadata = bind-output (required (codes "metadata") pod_metadata value) _ read is in
    let spec = bind-output (required (codes "spec") pod_spec value) _ read metadata.after in
    let status = bind-output (optional (codes "status") pod_status value) (λ status. Ok (pod_item metadata.first spec.first (unwrap_or status no_status))) read spec.after in
    let made : pod_item metadata.first spec.first (unwrap_or status.first no_status) ≡ read = let after = status.after in cc in
    let first = pod_metadata-meant (object_at (codes "metadata") value) metadata.first (object_at-output pod_metadata (codes "metadata") value metadata.first metadata.here) in
    let second = pod_spec-meant (object_at (codes "spec") value) spec.first (object_at-output pod_spec (codes "spec") value spec.first spec.here) in
    let third = status-meant value status.first status.here in
    let own = first.own in
    subst (IsPodOf value) made (record {
      names = (own.namespace, own.name);
      labels = first.labels;
      ports = second.ports;
      addresses = third.addresses;
      host_network = second.host_network;
      finished = third.finished;
    })

namespace_metadata-meant : (value : Data) (read : NamespaceItem) → namespace_metadata value ≡ Ok read → (text_at (codes "name") value ≡ read.name) × AreLabelsOf value read.labels
unfolding namespace_metadata
namespace_metadata-meant value read is =
    let past = then-output (must_be_object value) _ read is in
    let called = bind-output (required (codes "name") name value) _ read past in
    let labels = bind-output (optional (codes "labels") label_map value) (λ labels. Ok (record { name = called.first; labels = unwrap_or labels [] })) read called.after in
    let made : record { name = called.first; labels = unwrap_or labels.first [] } ≡ read = let after = labels.after in cc in
    subst (λ (one : NamespaceItem). (text_at (codes "name") value ≡ one.name) × AreLabelsOf value one.labels) made
    (text_at-output name name-output (codes "name") value called.first called.here, labels-meant value labels.first labels.here)

pub namespace-meant : (value : Data) (read : NamespaceItem) → namespace_object value ≡ Ok read → IsNamespaceOf value read
unfolding namespace_object
namespace-meant value read is =
    let both = namespace_metadata-meant (object_at (codes "metadata") value) read (object_at-output namespace_metadata (codes "metadata") value read is) in
    record { name = both.0; labels = both.1 }
