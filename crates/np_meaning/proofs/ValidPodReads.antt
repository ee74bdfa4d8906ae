-- A valid Pod is read. For `valid_pods_are_read`.
use Rattle.std.proofs.Common.{◌≡◌, ◌==◌, ℕ, List, ◌∷◌, length, Bool, true, false, Some, None, Ok, codes, refl, inl, inr, arith, unwrap_or, if◌then◌else◌}
use Rattle.std.proofs.lemmas.Bool.Decides.{nat_tests}
use Rattle.std.specs.List.{filter_map, flat_map}
use Rattle.std.specs.Option.{option_flatten}
use Rattle.serde_json.specs.Data.{Data}
use Rattle.np_addr.proofs.GrammarLemmas.{address_text_iff}
use Rattle.np_addr.specs.Prelude.{IsAddressText}
use Rattle.np_conns.specs.declared.proto.Proto.TheVariants as proto
use Rattle.np_json.specs.Prelude.{flag, listed, name, namespaced_name, optional, port, protocol_name, refuse_if, text, word}
use Rattle.np_meaning.proofs.ValidNames.{label-word-all, label_map-reads, name-of-bytes, name-reads, subdomain-name, text-reads, type-read}
use Rattle.np_meaning.proofs.ValidNetworkReads.{own-reads}
use Rattle.np_meaning.proofs.ValidPorts.{protocol-reads, some_port-reads}
use Rattle.np_meaning.proofs.ValidReads.{Reads, bind-reads, ends-reads, listed-reads, object-reads, optional-reads, required-reads}
use Rattle.np_meaning.specs.Types.{Address, PodItem}
use Rattle.np_meaning.specs.ValidMembers.{IsAny, IsFlag, IsLabel, IsMapOf, IsSubdomain, IsText}
use Rattle.np_meaning.specs.ValidPods.{IsIp, IsKindName, IsOwnedMeta, IsValidContainer, IsValidContainerPort, IsValidOwner, IsValidPod, IsValidPodIp, IsValidPodSpec, IsValidPodStatus, is_kind_byte}
use Rattle.np_meaning.specs.ValidPolicies.{IsPortName, IsProtocol, IsSomePort}
use Rattle.np_model.specs.Prelude.{is_name, is_word_byte}
use Rattle.np_objects.specs.Prelude.{address, address_by, container, container_port, distinct_addresses, if_named, is_finished, label_map, no_status, object_by, object_of, owner_reference, pod, pod_ip, pod_item, pod_metadata, pod_spec, pod_status, port_name, unless_empty}
use Rattle.np_objects.specs.declared.object.Object.TheVariants as object

-- ---- metadata

kind-word : (byte : ℕ) → is_kind_byte byte ≡ true → is_word_byte byte ≡ true
kind-word byte is = grind (arith, nat_tests, is)

kind-no_slash : (byte : ℕ) → is_kind_byte byte ≡ true → (byte == 47) ≡ false
kind-no_slash byte is = grind (arith, nat_tests, is)

kind-name : (text : List ℕ) → IsKindName text → is_name text ≡ true
kind-name text is = name-of-bytes is_kind_byte kind-word kind-no_slash text is.some is.bytes

pub flag-reads : (value : Data) → IsFlag value → Reads (flag value)
flag-reads value is = (is.0, rw is.1 refl)

pub owner-reads : (value : Data) → IsValidOwner value → Reads (owner_reference value)
unfolding owner_reference
owner-reads value is =
    let kind = required-reads name (IsText IsKindName) (name-reads IsKindName kind-name) (codes "kind") value is.kind in
    let called = required-reads name (IsText IsSubdomain) (name-reads IsSubdomain subdomain-name) (codes "name") value is.name in
    let controls = optional-reads flag IsFlag flag-reads (codes "controller") value is.controls in (
      record { owner = record { kind = kind.0; name = called.0 }; controls = unwrap_or controls.0 false },
      rw ((object-reads value is.object).1, kind.1, called.1, controls.1) refl,
    )

metadata-reads : (value : Data) → IsOwnedMeta value → Reads (pod_metadata value)
unfolding pod_metadata
metadata-reads value is =
    let own = own-reads value (record { object = is.object; name = is.name; namespace = is.namespace }) in
    let labelled = optional-reads label_map (IsMapOf IsLabel) label_map-reads (codes "labels") value is.labels in
    let owners = listed-reads owner_reference IsValidOwner owner-reads (codes "ownerReferences") value is.owners in
    bind-reads (namespaced_name value) _ own (λ meta read. bind-reads (optional (codes "labels") label_map value) _ labelled (λ labels read.
    bind-reads (listed (codes "ownerReferences") owner_reference value) _ owners (λ references read. ends-reads _)))

-- ---- spec

port_name-reads : (value : Data) → IsText IsPortName value → Reads (port_name value)
unfolding port_name word refuse_if
port_name-reads value is = (unless_empty is.0, rw (is.1, label-word-all is.0 is.2.bytes) refl)

pub container_port-reads : (value : Data) → IsValidContainerPort value → Reads (container_port value)
unfolding container_port
container_port-reads value is =
    let called = optional-reads port_name (IsText IsPortName) port_name-reads (codes "name") value is.name in
    let named = optional-reads protocol_name (IsText IsProtocol) protocol-reads (codes "protocol") value is.protocol in
    let number = required-reads port IsSomePort some_port-reads (codes "containerPort") value is.number in
    (if_named (option_flatten called.0) (unwrap_or named.0 proto.Tcp) number.0, rw ((object-reads value is.object).1, called.1, named.1, number.1) refl)

container-reads : (value : Data) → IsValidContainer value → Reads (container value)
unfolding container
container-reads value is =
    let ports = listed-reads container_port IsValidContainerPort container_port-reads (codes "ports") value is.ports in
    (filter_map (λ port. port) ports.0, rw ((object-reads value is.object).1, ports.1) refl)

pub pod_spec-reads : (value : Data) → IsValidPodSpec value → Reads (pod_spec value)
unfolding pod_spec
pod_spec-reads value is =
    let containers = listed-reads container IsValidContainer container-reads (codes "containers") value is.containers in
    let network = optional-reads flag IsFlag flag-reads (codes "hostNetwork") value is.host_network in (
      record { ports = flat_map (λ ports. ports) containers.0; host_network = unwrap_or network.0 false },
      rw ((object-reads value is.object).1, containers.1, network.1) refl,
    )

-- ---- status

-- an address by its text, and none where that counts as missing
by-text : (text : List ℕ) (one : Address) → IsAddressText text one → (missing : Bool) → Reads (address_by (if missing then None else Some text))
by-text text one is true = (None, refl)
by-text text one is false = (Some one, rw ((address_text_iff text one).1 is) refl)

ip-reads : (value : Data) → IsText IsIp value → Reads (address value)
unfolding address
ip-reads value is = by is.2
  where
    by : IsIp is.0 → Reads (address value)
    by (inl none) = (None, rw (is.1, none) refl)
    by (inr one) = let read = by-text is.0 one.0 one.1 (length is.0 == 0) in (read.0, rw is.1 read.1)

pod_ip-reads : (value : Data) → IsValidPodIp value → Reads (pod_ip value)
unfolding pod_ip
pod_ip-reads value is =
    let ip = optional-reads address (IsText IsIp) ip-reads (codes "ip") value is.ip in
    (option_flatten ip.0, rw ((object-reads value is.object).1, ip.1) refl)

status-reads : (value : Data) → IsValidPodStatus value → Reads (pod_status value)
unfolding pod_status
status-reads value is =
    let phase = optional-reads text (IsText IsAny) (text-reads IsAny) (codes "phase") value is.phase in
    let first = optional-reads address (IsText IsIp) ip-reads (codes "podIP") value is.first in
    let all = listed-reads pod_ip IsValidPodIp pod_ip-reads (codes "podIPs") value is.all in (
      record { finished = is_finished phase.0; addresses = distinct_addresses (option_flatten first.0 ∷ all.0) },
      rw ((object-reads value is.object).1, phase.1, first.1, all.1) refl,
    )

-- ---- pods

pub pod-valid : (value : Data) → IsValidPod value → (read : PodItem) × (object_of value ≡ Ok (object.Pod read))
unfolding object_of object_by pod
pod-valid value is =
    let metadata = required-reads pod_metadata IsOwnedMeta metadata-reads (codes "metadata") value is.metadata in
    let spec = required-reads pod_spec IsValidPodSpec pod_spec-reads (codes "spec") value is.spec in
    let status = optional-reads pod_status IsValidPodStatus status-reads (codes "status") value is.status in (
      pod_item metadata.0 spec.0 (unwrap_or status.0 no_status),
      rw (type-read (codes "v1") (codes "Pod") value is.type, metadata.1, spec.1, status.1) refl,
    )
