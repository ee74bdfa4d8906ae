-- What the shapes of objects read is well formed. For `read_object` and crates above.
use Rattle.std.proofs.Common.{◌≡◌, ℕ, List, [], ◌∷◌, length, map, fold, Bool, true, false, not, ◌&&◌, ◌==◌, if◌then◌else◌, IfOk, Option, Some, None, option_map, find, Ok, Err, Result, ℤ, codes, unwrap_or, refl, ap, ◌∙◌}
use Rattle.std.specs.List.{list_all, filter_map, flat_map}
use Rattle.std.specs.Option.{option_flatten}
use Rattle.std.specs.Ordering.{nat_cmp, match_ordering}
use Rattle.std.specs.Cmp.Lexicographic.{slice_cmp}
use Rattle.std.specs.declared.cmp.Ordering.{Ordering}
use Rattle.std.specs.declared.cmp.Ordering.TheVariants.{Less, Equal, Greater}
use Rattle.std.proofs.lemmas.Bool.{and_from, and_parts}
use Rattle.std.proofs.lemmas.List.Folds.{list_all-append}
use Rattle.serde_json.specs.Data.{Data}
use Rattle.np_objects.specs.Prelude.{ControllerKind, ControllerMetadata, ControllerSpec, CronJob, DaemonSet, Dependent, Deployment, IsWellObject, Job, Named, Number, Object, ObjectKind, OwnerReference, Pair, PodMetadata, PodSpec, Proto, ReplicaSet, ReplicationController, ServiceSpec, StatefulSet, Tcp, by_name, by_number, container, container_port, controller, controller_metadata, controller_spec, cron_job_spec, if_named, ingress, is_text, is_well_controller, is_well_namespace, is_well_object, is_well_owner, is_well_pod, is_well_template, is_zero, job_template, label_map, names_owner, namespace_metadata, namespace_object, no_spec, object_by, object_kind, object_of, owner_of, owner_reference, pod, pod_metadata, pod_spec, port_name, replicated_spec, selector_of, service, service_port, service_spec, target_by, target_port, template, template_metadata, template_spec, unless_empty}
use Rattle.np_json.specs.Prelude.{GivesItem, Read, as_whole, labels, must_be_object, name, namespaced_name, optional, port, protocol_name, required, text, whole}
use Rattle.np_model.specs.Prelude.{is_label, is_name, is_well_ingress, is_well_label, is_well_labels, is_well_port, is_well_ports, is_well_service, is_well_service_port, is_well_target, is_whole_word, is_word, is_worded_requirement, option_all}
use Rattle.np_json.specs.declared.fault.ReadFault.{ReadFault}
use Rattle.np_json.proofs.ReadLemmas.{is_well_own}
use Rattle.np_labels.specs.Prelude.{label_requirement, pair_of, with_pair}
use Rattle.np_model.specs.WellObjects.{is_worded_selector}
use Rattle.np_objects.specs.declared.kind.ObjectKind.TheVariants as kind
use Rattle.np_objects.specs.declared.object.Object.TheVariants as object
use Rattle.np_objects.specs.declared.owner_reference.Dependent.TheVariants as dependent
use Rattle.np_objects.proofs.ReadLemmas.{ReadsOnly, ReadsOnly-Ok, ReadsOnly-bind, ReadsOnly-after, ReadsOnly-then, ReadsOnly-required, ReadsOnly-optional, ReadsOnly-listed, ReadsOnly-name, ReadsOnly-word, ReadsOnly-labels, ReadsOnly-namespaced_name, unwrapped}

-- ---- lists

-- the values that are there pass a test, if all of them do
somes_pass : {A : Type 0} (p : A → Bool) (found : List (Option A)) → list_all (option_all p) found ≡ true → list_all p (filter_map (λ x. x) found) ≡ true
somes_pass p [] all = refl
somes_pass p (None ∷ found) all = somes_pass p found all
somes_pass p (Some x ∷ found) all =
    let parts = and_parts (p x) (list_all (option_all p) found) all in
    and_from (p x) (list_all p (filter_map (λ x. x) found)) parts.0 (somes_pass p found parts.1)

joined_pass : {A : Type 0} (p : A → Bool) (lists : List (List A)) → list_all (list_all p) lists ≡ true → list_all p (flat_map (λ items. items) lists) ≡ true
joined_pass p [] all = refl
joined_pass p (items ∷ lists) all =
    let parts = and_parts (list_all p items) (list_all (list_all p) lists) all in
    list_all-append p items (flat_map (λ items. items) lists) ∙ and_from (list_all p items) (list_all p (flat_map (λ items. items) lists)) parts.0 (joined_pass p lists parts.1)

flattened : {A : Type 0} (p : A → Bool) (found : Option (Option A)) → option_all (option_all p) found ≡ true → option_all p (option_flatten found) ≡ true
flattened p None all = refl
flattened p (Some found) all = all

-- ---- labels

-- one more label
pub with_pair-well : (pairs : List Pair) (pair : Pair) → is_well_labels pairs ≡ true → is_well_label pair ≡ true → is_well_labels (with_pair pairs pair) ≡ true
with_pair-well [] pair all is = and_from (is_well_label pair) true is refl
with_pair-well (first ∷ pairs) pair all is = by (slice_cmp nat_cmp pair.key first.key) (with_pair-well pairs pair (and_parts (is_well_label first) (is_well_labels pairs) all).1 is)
  where
    parts : (is_well_label first ≡ true) × (is_well_labels pairs ≡ true)
    parts = and_parts (is_well_label first) (is_well_labels pairs) all

    key : (not (length first.key == 0) && is_word first.key ≡ true) × (is_word first.value ≡ true)
    key = and_parts (not (length first.key == 0) && is_word first.key) (is_word first.value) parts.0

    value : (not (length pair.key == 0) && is_word pair.key ≡ true) × (is_word pair.value ≡ true)
    value = and_parts (not (length pair.key == 0) && is_word pair.key) (is_word pair.value) is

    by : (order : Ordering) → is_well_labels (with_pair pairs pair) ≡ true →
        is_well_labels (match_ordering order (pair ∷ first ∷ pairs) (record first { value = pair.value } ∷ pairs) (first ∷ with_pair pairs pair)) ≡ true
    by Less later = and_from (is_well_label pair) (is_well_labels (first ∷ pairs)) is all
    by Equal later = and_from (not (length first.key == 0) && is_word first.key && is_word pair.value) (is_well_labels pairs)
        (and_from (not (length first.key == 0) && is_word first.key) (is_word pair.value) key.0 value.1) parts.1
    by Greater later = and_from (is_well_label first) (is_well_labels (with_pair pairs pair)) parts.0 later

fold-well : (start : List Pair) (entries : List (List ℕ × List ℕ)) → is_well_labels start ≡ true → list_all is_label entries ≡ true → is_well_labels (fold with_pair start (map pair_of entries)) ≡ true
fold-well start [] is all = is
fold-well start (entry ∷ entries) is all =
    let parts = and_parts (is_label entry) (list_all is_label entries) all in
    fold-well (with_pair start (pair_of entry)) entries (with_pair-well start (pair_of entry) is parts.0) parts.1

label_map-well : (value : Data) → ReadsOnly is_well_labels (label_map value)
unfolding label_map
label_map-well value =
    ReadsOnly-bind (list_all is_label) is_well_labels _ _ (ReadsOnly-labels value) (λ entries all.
    ReadsOnly-Ok is_well_labels _ (fold-well [] entries refl all))

-- ---- owners

abbrev is_well_reference : OwnerReference → Bool
is_well_reference reference = is_well_owner reference.owner

owner_reference-well : (value : Data) → ReadsOnly is_well_reference (owner_reference value)
unfolding owner_reference
owner_reference-well value =
    ReadsOnly-then is_well_reference _ _ (
    ReadsOnly-bind is_name is_well_reference _ _ (ReadsOnly-required is_name (codes "kind") name value ReadsOnly-name) (λ kind kind_well.
    ReadsOnly-bind is_name is_well_reference _ _ (ReadsOnly-required is_name (codes "name") name value ReadsOnly-name) (λ called called_well.
    ReadsOnly-after is_well_reference _ _ (λ controller.
    ReadsOnly-Ok is_well_reference _ (and_from (is_name kind) (is_name called) kind_well called_well)))))

owner_of-well : (dependent : Dependent) (references : List OwnerReference) → list_all is_well_reference references ≡ true → option_all is_well_owner (owner_of dependent references) ≡ true
owner_of-well dependent [] all = refl
owner_of-well dependent (reference ∷ references) all = by (names_owner dependent reference) (owner_of-well dependent references parts.1)
  where
    parts : (is_well_reference reference ≡ true) × (list_all is_well_reference references ≡ true)
    parts = and_parts (is_well_reference reference) (list_all is_well_reference references) all

    by : (named : Bool) → option_all is_well_owner (owner_of dependent references) ≡ true →
        option_all is_well_owner (option_map (λ one. one.owner) (if named then Some reference else find (names_owner dependent) references)) ≡ true
    by true later = parts.0
    by false later = later

-- ---- ports

unless_empty-well : (s : List ℕ) → is_word s ≡ true → option_all is_whole_word (unless_empty s) ≡ true
unless_empty-well s is = by (length s == 0) refl
  where
    by : (empty : Bool) → (length s == 0) ≡ empty → option_all is_whole_word (if empty then None else Some s) ≡ true
    by true same = refl
    by false same = and_from (not (length s == 0)) (is_word s) (ap not same) is

port_name-well : (value : Data) → ReadsOnly (option_all is_whole_word) (port_name value)
unfolding port_name
port_name-well value =
    ReadsOnly-bind is_word (option_all is_whole_word) _ _ (ReadsOnly-word value) (λ s s_well.
    ReadsOnly-Ok (option_all is_whole_word) (unless_empty s) (unless_empty-well s s_well))

if_named-well : (called : Option (List ℕ)) (proto : Proto) (number : ℕ) → option_all is_whole_word called ≡ true → option_all is_well_port (if_named called proto number) ≡ true
if_named-well None proto number is = refl
if_named-well (Some called) proto number is = is

container_port-well : (value : Data) → ReadsOnly (option_all is_well_port) (container_port value)
unfolding container_port
container_port-well value =
    ReadsOnly-then (option_all is_well_port) _ _ (
    ReadsOnly-bind (option_all (option_all is_whole_word)) (option_all is_well_port) _ _ (ReadsOnly-optional (option_all is_whole_word) (codes "name") port_name value port_name-well)
    (λ called called_well.
    ReadsOnly-after (option_all is_well_port) (optional (codes "protocol") protocol_name value) _ (λ proto.
    ReadsOnly-after (option_all is_well_port) (required (codes "containerPort") port value) _ (λ number.
    ReadsOnly-Ok (option_all is_well_port) (if_named (option_flatten called) (unwrap_or proto Tcp) number)
    (if_named-well (option_flatten called) (unwrap_or proto Tcp) number (flattened is_whole_word called called_well))))))

container-well : (value : Data) → ReadsOnly is_well_ports (container value)
unfolding container
container-well value =
    ReadsOnly-then is_well_ports _ _ (
    ReadsOnly-bind (list_all (option_all is_well_port)) is_well_ports _ _ (ReadsOnly-listed (option_all is_well_port) (codes "ports") container_port value container_port-well) (λ ports ports_well.
    ReadsOnly-Ok is_well_ports _ (somes_pass is_well_port ports ports_well)))

-- ---- pods

abbrev is_well_spec : PodSpec → Bool
is_well_spec spec = is_well_ports spec.ports

pod_spec-well : (value : Data) → ReadsOnly is_well_spec (pod_spec value)
unfolding pod_spec
pod_spec-well value =
    ReadsOnly-then is_well_spec _ _ (
    ReadsOnly-bind (list_all is_well_ports) is_well_spec _ _ (ReadsOnly-listed is_well_ports (codes "containers") container value container-well) (λ containers containers_well.
    ReadsOnly-after is_well_spec _ _ (λ host_network.
    ReadsOnly-Ok is_well_spec _ (joined_pass is_well_port containers containers_well))))

abbrev is_well_metadata : PodMetadata → Bool
is_well_metadata metadata = is_well_own metadata.own && is_well_labels metadata.labels && option_all is_well_owner metadata.owner

pod_metadata-well : (value : Data) → ReadsOnly is_well_metadata (pod_metadata value)
unfolding pod_metadata
pod_metadata-well value =
    ReadsOnly-bind is_well_own is_well_metadata _ _ (ReadsOnly-namespaced_name value) (λ own own_well.
    ReadsOnly-bind (option_all is_well_labels) is_well_metadata _ _ (ReadsOnly-optional is_well_labels (codes "labels") label_map value label_map-well) (λ found found_well.
    ReadsOnly-bind (list_all is_well_reference) is_well_metadata _ _ (ReadsOnly-listed is_well_reference (codes "ownerReferences") owner_reference value owner_reference-well)
    (λ references references_well.
    ReadsOnly-Ok is_well_metadata _ (and_from _ _ (and_from _ _ own_well (unwrapped is_well_labels found [] found_well refl)) (owner_of-well dependent.Pod references references_well)))))

pod-well : (value : Data) → ReadsOnly is_well_pod (pod value)
unfolding pod
pod-well value =
    ReadsOnly-bind is_well_metadata is_well_pod _ _ (ReadsOnly-required is_well_metadata (codes "metadata") pod_metadata value pod_metadata-well) (λ metadata metadata_well.
    ReadsOnly-bind is_well_spec is_well_pod _ _ (ReadsOnly-required is_well_spec (codes "spec") pod_spec value pod_spec-well) (λ spec spec_well.
    ReadsOnly-after is_well_pod _ _ (λ status.
    ReadsOnly-Ok is_well_pod _ (and_from _ _ metadata_well spec_well))))

-- ---- namespaces

namespace_metadata-well : (value : Data) → ReadsOnly is_well_namespace (namespace_metadata value)
unfolding namespace_metadata
namespace_metadata-well value =
    ReadsOnly-then is_well_namespace _ _ (
    ReadsOnly-bind is_name is_well_namespace _ _ (ReadsOnly-required is_name (codes "name") name value ReadsOnly-name) (λ called called_well.
    ReadsOnly-bind (option_all is_well_labels) is_well_namespace _ _ (ReadsOnly-optional is_well_labels (codes "labels") label_map value label_map-well) (λ found found_well.
    ReadsOnly-Ok is_well_namespace _ (and_from _ _ called_well (unwrapped is_well_labels found [] found_well refl)))))

namespace-well : (value : Data) → ReadsOnly is_well_namespace (namespace_object value)
unfolding namespace_object
namespace-well value = ReadsOnly-required is_well_namespace (codes "metadata") namespace_metadata value namespace_metadata-well

-- ---- controllers

template_metadata-well : (value : Data) → ReadsOnly is_well_labels (template_metadata value)
unfolding template_metadata
template_metadata-well value =
    ReadsOnly-then is_well_labels _ _ (
    ReadsOnly-bind (option_all is_well_labels) is_well_labels _ _ (ReadsOnly-optional is_well_labels (codes "labels") label_map value label_map-well) (λ found found_well.
    ReadsOnly-Ok is_well_labels _ (unwrapped is_well_labels found [] found_well refl)))

template-well : (value : Data) → ReadsOnly is_well_template (template value)
unfolding template
template-well value =
    ReadsOnly-then is_well_template _ _ (
    ReadsOnly-bind (option_all is_well_labels) is_well_template _ _ (ReadsOnly-optional is_well_labels (codes "metadata") template_metadata value template_metadata-well) (λ found found_well.
    ReadsOnly-bind is_well_spec is_well_template _ _ (ReadsOnly-required is_well_spec (codes "spec") pod_spec value pod_spec-well) (λ spec spec_well.
    ReadsOnly-Ok is_well_template _ (and_from _ _ (unwrapped is_well_labels found [] found_well refl) spec_well))))

abbrev has_well_template : ControllerSpec → Bool
has_well_template spec = option_all is_well_template spec.template

replicated_spec-well : (value : Data) → ReadsOnly has_well_template (replicated_spec value)
unfolding replicated_spec
replicated_spec-well value =
    ReadsOnly-then has_well_template (must_be_object value) _ (
    ReadsOnly-after has_well_template (optional (codes "replicas") whole value) _ (λ replicas.
    ReadsOnly-bind (option_all is_well_template) has_well_template _ _ (ReadsOnly-optional is_well_template (codes "template") template value template-well) (λ pods pods_well.
    ReadsOnly-Ok has_well_template (record { none_wanted = is_zero replicas; template = pods }) pods_well)))

template_spec-well : (value : Data) → ReadsOnly has_well_template (template_spec value)
unfolding template_spec
template_spec-well value =
    ReadsOnly-then has_well_template _ _ (
    ReadsOnly-bind (option_all is_well_template) has_well_template _ _ (ReadsOnly-optional is_well_template (codes "template") template value template-well) (λ pods pods_well.
    ReadsOnly-Ok has_well_template _ pods_well))

job_template-well : (value : Data) → ReadsOnly has_well_template (job_template value)
unfolding job_template
job_template-well value =
    ReadsOnly-then has_well_template _ _ (
    ReadsOnly-bind (option_all has_well_template) has_well_template _ _ (ReadsOnly-optional has_well_template (codes "spec") template_spec value template_spec-well) (λ spec spec_well.
    ReadsOnly-Ok has_well_template _ (unwrapped has_well_template spec no_spec spec_well refl)))

cron_job_spec-well : (value : Data) → ReadsOnly has_well_template (cron_job_spec value)
unfolding cron_job_spec
cron_job_spec-well value =
    ReadsOnly-then has_well_template _ _ (
    ReadsOnly-bind (option_all has_well_template) has_well_template _ _ (ReadsOnly-optional has_well_template (codes "jobTemplate") job_template value job_template-well) (λ job job_well.
    ReadsOnly-Ok has_well_template _ (unwrapped has_well_template job no_spec job_well refl)))

controller_spec-well : (which : ControllerKind) (value : Data) → ReadsOnly has_well_template (controller_spec which value)
controller_spec-well Deployment value = replicated_spec-well value
controller_spec-well ReplicaSet value = replicated_spec-well value
controller_spec-well StatefulSet value = replicated_spec-well value
controller_spec-well ReplicationController value = replicated_spec-well value
controller_spec-well DaemonSet value = template_spec-well value
controller_spec-well Job value = template_spec-well value
controller_spec-well CronJob value = cron_job_spec-well value

abbrev has_well_metadata : ControllerMetadata → Bool
has_well_metadata metadata = is_well_own metadata.own && option_all is_well_owner metadata.owner

controller_metadata-well : (value : Data) → ReadsOnly has_well_metadata (controller_metadata value)
unfolding controller_metadata
controller_metadata-well value =
    ReadsOnly-bind is_well_own has_well_metadata _ _ (ReadsOnly-namespaced_name value) (λ own own_well.
    ReadsOnly-bind (list_all is_well_reference) has_well_metadata _ _ (ReadsOnly-listed is_well_reference (codes "ownerReferences") owner_reference value owner_reference-well)
    (λ references references_well.
    ReadsOnly-Ok has_well_metadata _ (and_from _ _ own_well (owner_of-well dependent.Controller references references_well))))

controller-well : (which : ControllerKind) (value : Data) → ReadsOnly is_well_controller (controller which value)
unfolding controller
controller-well which value =
    ReadsOnly-bind has_well_metadata is_well_controller _ _ (ReadsOnly-required has_well_metadata (codes "metadata") controller_metadata value controller_metadata-well) (λ metadata metadata_well.
    ReadsOnly-bind (option_all has_well_template) is_well_controller _ _ (ReadsOnly-optional has_well_template (codes "spec") (controller_spec which) value (controller_spec-well which))
    (λ spec spec_well.
    ReadsOnly-Ok is_well_controller _ (and_from _ _ metadata_well (unwrapped has_well_template spec no_spec spec_well refl))))

-- ---- services

by_number-well : (n : ℤ) → ReadsOnly (option_all is_well_target) (by_number n)
unfolding by_number
by_number-well n = ReadsOnly-after (option_all is_well_target) _ _ (λ number. ReadsOnly-Ok (option_all is_well_target) (Some (Number number)) refl)

named-well : (called : Option (List ℕ)) → option_all is_whole_word called ≡ true → option_all is_well_target (option_map Named called) ≡ true
named-well None is = refl
named-well (Some called) is = is

by_name-well : (value : Data) → ReadsOnly (option_all is_well_target) (by_name value)
unfolding by_name
by_name-well value =
    ReadsOnly-bind (option_all is_whole_word) (option_all is_well_target) _ _ (port_name-well value) (λ called called_well.
    ReadsOnly-Ok (option_all is_well_target) (option_map Named called) (named-well called called_well))

unless_zero : (zero : Bool) (n : ℤ) → ReadsOnly (option_all is_well_target) (if zero then Ok None else by_number n)
unless_zero true n = ReadsOnly-Ok (option_all is_well_target) None refl
unless_zero false n = by_number-well n

target_by-well : (number : Option ℤ) (value : Data) → ReadsOnly (option_all is_well_target) (target_by number value)
target_by-well (Some n) value = unless_zero (is_zero (Some n)) n
target_by-well None value = by_name-well value

target_port-well : (value : Data) → ReadsOnly (option_all is_well_target) (target_port value)
unfolding target_port
target_port-well value = target_by-well (as_whole value) value

service_port-well : (value : Data) → ReadsOnly is_well_service_port (service_port value)
unfolding service_port
service_port-well value =
    ReadsOnly-then is_well_service_port _ _ (
    ReadsOnly-bind (option_all (option_all is_whole_word)) is_well_service_port _ _ (ReadsOnly-optional (option_all is_whole_word) (codes "name") port_name value port_name-well) (λ called called_well.
    ReadsOnly-after is_well_service_port (optional (codes "protocol") protocol_name value) _ (λ proto.
    ReadsOnly-after is_well_service_port (required (codes "port") port value) _ (λ number.
    ReadsOnly-bind (option_all (option_all is_well_target)) is_well_service_port _ _ (ReadsOnly-optional (option_all is_well_target) (codes "targetPort") target_port value target_port-well)
    (λ target target_well.
    ReadsOnly-Ok is_well_service_port (record { name = option_flatten called; proto = unwrap_or proto Tcp; port = number; target = unwrap_or (option_flatten target) (Number number) })
    (and_from _ _ (flattened is_whole_word called called_well) (unwrapped is_well_target (option_flatten target) (Number number) (flattened is_well_target target target_well) refl)))))))

requirement-well : (entry : List ℕ × List ℕ) → is_label entry ≡ true → is_worded_requirement (label_requirement entry) ≡ true
requirement-well entry is =
    let parts = and_parts (is_whole_word entry.0) (is_word entry.1) is in
    and_from (is_whole_word entry.0 && (is_word entry.1 && true)) true (and_from (is_whole_word entry.0) (is_word entry.1 && true) parts.0 (and_from (is_word entry.1) true parts.1 refl)) refl

requirements-well : (entries : List (List ℕ × List ℕ)) → list_all is_label entries ≡ true → list_all is_worded_requirement (map label_requirement entries) ≡ true
requirements-well [] all = refl
requirements-well (entry ∷ entries) all =
    let parts = and_parts (is_label entry) (list_all is_label entries) all in
    and_from (is_worded_requirement (label_requirement entry)) (list_all is_worded_requirement (map label_requirement entries)) (requirement-well entry parts.0) (requirements-well entries parts.1)

selector-well : (entries : List (List ℕ × List ℕ)) → list_all is_label entries ≡ true → option_all is_worded_selector (selector_of entries) ≡ true
selector-well [] all = refl
selector-well (entry ∷ entries) all = requirements-well (entry ∷ entries) all

abbrev has_well_members : ServiceSpec → Bool
has_well_members spec = option_all is_worded_selector spec.selector && list_all is_well_service_port spec.ports

service_spec-well : (value : Data) → ReadsOnly has_well_members (service_spec value)
unfolding service_spec
service_spec-well value =
    ReadsOnly-then has_well_members (must_be_object value) _ (
    ReadsOnly-after has_well_members (optional (codes "type") text value) _ (λ sort.
    ReadsOnly-after has_well_members (optional (codes "clusterIP") text value) _ (λ cluster_ip.
    ReadsOnly-bind (option_all (list_all is_label)) has_well_members _ _ (ReadsOnly-optional (list_all is_label) (codes "selector") labels value ReadsOnly-labels) (λ selector selector_well.
    ReadsOnly-bind (list_all is_well_service_port) has_well_members _ _ (ReadsOnly-listed is_well_service_port (codes "ports") service_port value service_port-well) (λ ports ports_well.
    ReadsOnly-Ok has_well_members (record {
      selector = selector_of (unwrap_or selector []);
      headless = is_text cluster_ip (codes "None");
      external = is_text sort (codes "ExternalName");
      ports =
          ports;
    }) (and_from _ _ (selector-well (unwrap_or selector []) (unwrapped (list_all is_label) selector [] selector_well refl)) ports_well))))))

service-well : (value : Data) → ReadsOnly is_well_service (service value)
unfolding service
service-well value =
    ReadsOnly-bind is_well_own is_well_service _ _ (ReadsOnly-required is_well_own (codes "metadata") namespaced_name value ReadsOnly-namespaced_name) (λ own own_well.
    ReadsOnly-bind has_well_members is_well_service _ _ (ReadsOnly-required has_well_members (codes "spec") service_spec value service_spec-well) (λ spec spec_well.
    let parts = and_parts (option_all is_worded_selector spec.selector) (list_all is_well_service_port spec.ports) spec_well in
    ReadsOnly-Ok is_well_service _ (and_from _ _ (and_from _ _ own_well parts.0) parts.1)))

-- ---- ingresses

ingress-well : (value : Data) → ReadsOnly is_well_ingress (ingress value)
unfolding ingress
ingress-well value =
    ReadsOnly-bind is_well_own is_well_ingress _ _ (ReadsOnly-required is_well_own (codes "metadata") namespaced_name value ReadsOnly-namespaced_name) (λ own own_well.
    ReadsOnly-after is_well_ingress _ _ (λ backends.
    ReadsOnly-Ok is_well_ingress _ own_well))

-- ---- objects

object_by-well : (which : Option ObjectKind) (value : Data) → ReadsOnly is_well_object (object_by which value)
unfolding object_by
object_by-well None value = ReadsOnly-Ok is_well_object object.Other refl
object_by-well (Some kind.Pod) value = ReadsOnly-bind is_well_pod is_well_object _ _ (pod-well value) (λ item is. ReadsOnly-Ok is_well_object (object.Pod item) is)
object_by-well (Some kind.Namespace) value = ReadsOnly-bind is_well_namespace is_well_object _ _ (namespace-well value) (λ item is. ReadsOnly-Ok is_well_object (object.Namespace item) is)
object_by-well (Some (kind.Controller which)) value = ReadsOnly-bind is_well_controller is_well_object _ _ (controller-well which value)
    (λ item is. ReadsOnly-Ok is_well_object (object.Controller item) is)
object_by-well (Some kind.Service) value = ReadsOnly-bind is_well_service is_well_object _ _ (service-well value) (λ item is. ReadsOnly-Ok is_well_object (object.Service item) is)
object_by-well (Some kind.Ingress) value = ReadsOnly-bind is_well_ingress is_well_object _ _ (ingress-well value) (λ item is. ReadsOnly-Ok is_well_object (object.Ingress item) is)

pub object_of-well : (value : Data) → ReadsOnly is_well_object (object_of value)
unfolding object_of
object_of-well value = ReadsOnly-after is_well_object _ _ (λ type. object_by-well (object_kind type.api_version type.kind) value)

-- what the code gives of an item is well formed, if what is read of it is
pub IsWellObject-of_item : (number : ℕ) (given : Result Object ReadFault) (read : Read Object) → ReadsOnly is_well_object read → GivesItem number given read → IfOk given IsWellObject
IsWellObject-of_item number (Ok item) read is gives = is.output item gives
IsWellObject-of_item number (Err fault) read is gives = tt
