-- What the members of a Pod, a Namespace, a Service and an Ingress in JSON say (Kubernetes API reference, ObjectMeta, PodSpec,
-- ContainerPort, PodStatus, ServiceSpec, ServicePort, IngressSpec and IngressBackend).
use Rattle.std.specs.Prelude.{◌≡◌, ℕ, ℤ, pos, negsuc, zero, suc, List, [], ◌∷◌, ◌++◌, filter, map, option_to_list, Bool, true, false, not, ◌&&◌, ◌||◌, if◌then◌else◌, is_some, Option, Some, None, option_map, unwrap_or, codes}
use Rattle.std.specs.List.{flat_map, list_any}
use Rattle.std.specs.Str.{bytes_eq}
use Rattle.serde_json.specs.Data.{Data, no_items, Members, no_members, member}
use Rattle.serde_json.specs.Find.{as_str, as_bool, as_array}
use Rattle.np_items.specs.Prelude.{values}
use Rattle.np_addr.specs.Prelude.{address_of}
use Rattle.np_meaning.specs.Types.{Address, Backend, IngressItem, Named, NamedPort, NamespaceItem, Number, Pair, PodItem, PortName, Resource, Service, ServiceItem, ServicePort}
use Rattle.np_json.specs.Prelude.{member_of}
use Rattle.np_labels.specs.Prelude.{meets_selector, value_of}
use Rattle.np_labels.specs.declared.selector.Selector.{Selector}
use Rattle.np_objects.specs.Prelude.{has_address, is_same_address}
use Rattle.np_meaning.specs.EachPod.{AreEach}
use Rattle.np_meaning.specs.MemberMeaning.{entries_at, named_or_default, number_at, object_at, protocol_of, spec_of, text_at}

-- ---- members

-- whether a member is `true`
abbrev pub is_true_at : List ℕ → Data → Bool
is_true_at name value = unwrap_or (as_bool (object_at name value)) false

-- the items of a member, and none where it is missing
abbrev pub list_at : List ℕ → Data → List Data
list_at name value = values (unwrap_or (as_array (object_at name value)) no_items)

abbrev pub metadata_of : Data → Data
metadata_of value = object_at (codes "metadata") value

-- the namespace and the name of an object
abbrev pub IsNamed : Data → List ℕ → List ℕ → Type 0
IsNamed value namespace name =
    (named_or_default (text_at (codes "namespace") (metadata_of value)) ≡ namespace)
    × (text_at (codes "name") (metadata_of value) ≡ name)

-- ---- labels

-- the text of the last entry of a name
abbrev pub last_text : Members → List ℕ → Option (List ℕ)
last_text no_members key = None
last_text (member name value members) key =
    if is_some (last_text members key) then last_text members key else if bytes_eq name key then as_str value else None

-- the labels have the value of each key that `labels` has, and no other
abbrev pub AreLabelsOf : Data → List Pair → Type 0
AreLabelsOf metadata labels = (key : List ℕ) → value_of labels key ≡ last_text (entries_at (codes "labels") metadata) key

-- ---- ports of containers

abbrev pub is_text_empty : List ℕ → Bool
is_text_empty [] = true
is_text_empty (byte ∷ bytes) = false

abbrev pub has_name : Data → Bool
has_name entry = not (is_text_empty (text_at (codes "name") entry))

-- the entries of `ports` of all containers that have a name, in order
abbrev pub named_ports : Data → List Data
named_ports spec = flat_map (λ container. filter has_name (list_at (codes "ports") container)) (list_at (codes "containers") spec)

pub record IsContainerPort (entry : Data) (port : NamedPort) : Type 0 where
  pub name : text_at (codes "name") entry ≡ port.name
  pub proto : protocol_of entry ≡ port.proto
  pub number : number_at (codes "containerPort") entry ≡ Some (pos port.number)

-- ---- pods

-- whether a text writes an address; the empty text writes none
abbrev pub is_address : List ℕ → Address → Bool
is_address [] address = false
is_address (byte ∷ bytes) address = unwrap_or (option_map (λ other. is_same_address other address) (address_of (byte ∷ bytes))) false

-- whether `podIP` or an item of `podIPs` is an address
abbrev pub says_address : Data → Address → Bool
says_address status address =
    is_address (text_at (codes "podIP") status) address
    || list_any (λ value. is_address (text_at (codes "ip") value) address) (list_at (codes "podIPs") status)

-- whether the phase is one that a pod does not leave
abbrev pub is_final : List ℕ → Bool
is_final phase = bytes_eq phase (codes "Succeeded") || bytes_eq phase (codes "Failed")

pub record IsPodOf (value : Data) (pod : PodItem) : Type 0 where
  pub names : IsNamed value pod.namespace pod.name
  pub labels : AreLabelsOf (metadata_of value) pod.labels
  pub ports : AreEach IsContainerPort (named_ports (spec_of value)) pod.ports
  pub addresses : (address : Address) → has_address pod.addresses address ≡ says_address (object_at (codes "status") value) address
  pub host_network : pod.host_network ≡ is_true_at (codes "hostNetwork") (spec_of value)
  pub finished : pod.finished ≡ is_final (text_at (codes "phase") (object_at (codes "status") value))

-- ---- namespaces

pub record IsNamespaceOf (value : Data) (namespace : NamespaceItem) : Type 0 where
  pub name : text_at (codes "name") (metadata_of value) ≡ namespace.name
  pub labels : AreLabelsOf (metadata_of value) namespace.labels

-- ---- services

abbrev pub are_no_entries : Members → Bool
are_no_entries no_members = true
are_no_entries (member name value entries) = false

-- whether what is found at a key is the text of a value
abbrev pub is_text_of : Option (List ℕ) → Data → Bool
is_text_of None value = false
is_text_of (Some found) value = unwrap_or (option_map (λ s. bytes_eq s found) (as_str value)) false

-- whether labels have each entry, as a key and its value
abbrev pub have_entries : List Pair → Members → Bool
have_entries labels no_members = true
have_entries labels (member key value members) = is_text_of (value_of labels key) value && have_entries labels members

-- a selector is met by the labels that have all of `selector`; there is none where that is missing or empty
abbrev pub IsServiceSelector : Members → Option Selector → Type 0
IsServiceSelector entries None = are_no_entries entries ≡ true
IsServiceSelector entries (Some selector) =
    (are_no_entries entries ≡ false) × ((labels : List Pair) → meets_selector selector labels ≡ have_entries labels entries)

-- the port of the pods: the same where no `targetPort` is named, which the number 0 and the empty text do not
abbrev pub target_at : Option ℤ → List ℕ → ℕ → PortName
target_at (Some (pos zero)) name port = Number port
target_at (Some (pos (suc n))) name port = Number (suc n)
target_at (Some (negsuc n)) name port = Number port
target_at None [] port = Number port
target_at None (byte ∷ bytes) port = Named (byte ∷ bytes)

pub record IsServicePort (entry : Data) (port : ServicePort) : Type 0 where
  pub name : text_at (codes "name") entry ≡ unwrap_or port.name []
  pub proto : protocol_of entry ≡ port.proto
  pub number : number_at (codes "port") entry ≡ Some (pos port.port)
  pub target : port.target ≡ target_at (number_at (codes "targetPort") entry) (text_at (codes "targetPort") entry) port.port

pub record IsServiceOf (value : Data) (service : ServiceItem) : Type 0 where
  pub names : IsNamed value service.namespace service.name
  pub selector : IsServiceSelector (entries_at (codes "selector") (spec_of value)) service.selector
  pub headless : service.headless ≡ bytes_eq (text_at (codes "clusterIP") (spec_of value)) (codes "None")
  pub external : service.external ≡ bytes_eq (text_at (codes "type") (spec_of value)) (codes "ExternalName")
  pub ports : AreEach IsServicePort (list_at (codes "ports") (spec_of value)) service.ports

-- ---- ingresses

-- a port of a service by its number or its name
abbrev pub IsBackendPort : Data → PortName → Type 0
IsBackendPort value (Number n) = number_at (codes "number") value ≡ Some (pos n)
IsBackendPort value (Named name) = text_at (codes "name") value ≡ name

-- a port of the service of that name, or a resource where there is no service
abbrev pub IsBackend : Data → Backend → Type 0
IsBackend value (Service name port) =
    (text_at (codes "name") (object_at (codes "service") value) ≡ name)
    × IsBackendPort (object_at (codes "port") (object_at (codes "service") value)) port
IsBackend value Resource = member_of (codes "service") value ≡ None

-- the default backend, where there is one, and those of the paths of the rules, in order
abbrev pub backends_in : Data → List Data
backends_in spec =
    option_to_list (member_of (codes "defaultBackend") spec)
    ++ flat_map (λ rule. map (object_at (codes "backend")) (list_at (codes "paths") (object_at (codes "http") rule))) (list_at (codes "rules") spec)

pub record IsIngressOf (value : Data) (ingress : IngressItem) : Type 0 where
  pub names : IsNamed value ingress.namespace ingress.name
  pub backends : AreEach IsBackend (backends_in (spec_of value)) ingress.backends
