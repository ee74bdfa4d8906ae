-- The owner of an object that is read is the one that its references name. For `owner_is_read_of_references`.
use Rattle.std.proofs.Common.{◌≡◌, ◌∙◌, ℕ, List, [], Option, Some, None, Ok, Err, codes, unwrap_or, refl, ap}
use Rattle.serde_json.specs.Data.{Data}
use Rattle.np_json.specs.Prelude.{Read, listed, member_of, namespaced_name, optional, read_member, refuse, required, under, ◌>>=◌}
use Rattle.np_objects.specs.Prelude.{BadField, ControllerItem, ControllerKind, ControllerMetadata, ControllerSpec, Dependent, Field, IsOwnerIn, NamespacedName, OwnerRef, OwnerReference, Pair, PodItem, PodMetadata, PodSpec, PodStatus, Step, controller, controller_item, controller_metadata, controller_spec, label_map, no_spec, no_status, owner_of, owner_reference, pod, pod_item, pod_metadata, pod_spec, pod_status}
use Rattle.np_json.proofs.ReadLemmas.{under-output}
use Rattle.np_objects.specs.declared.owner_reference.Dependent.TheVariants as dependent

-- ---- members

Ok-under : {A : Type 0} (step : Step) (read : Read A) (x : A) → read ≡ Ok x → under step read ≡ Ok x
unfolding under
Ok-under step read x is = ap (under step) is

-- a shape that reads of a value what another does of it, and of the member too
required-other : {A B : Type 0} (name : List ℕ) (shape : Data → Read A) (other : Data → Read B) (P : B → Type 0) (value : Data) (x : A) →
    ((found : Data) → shape found ≡ Ok x → (y : B) × (other found ≡ Ok y) × P y) → required name shape value ≡ Ok x → (y : B) × (required name other value ≡ Ok y) × P y
unfolding required
required-other {A} {B} name shape other P value x each is = by (member_of name value) (under-output (Field name) (read_member (refuse BadField) shape (member_of name value)) x is)
  where
    by : (found : Option Data) → read_member (refuse BadField) shape found ≡ Ok x → (y : B) × (under (Field name) (read_member (refuse BadField) other found) ≡ Ok y) × P y
    by None read = cc
    by (Some found) read = let part = each found read in (part.0, Ok-under (Field name) (other found) part.0 part.1, part.2)

-- ---- the references of a value

-- the references that a value lists name its owner
abbrev Names : Dependent → Data → Option OwnerRef → Type 0
Names dependent value owner = (references : List OwnerReference) × (listed (codes "ownerReferences") owner_reference value ≡ Ok references) × (owner ≡ owner_of dependent references)

pod_metadata-names : (value : Data) (metadata : PodMetadata) → pod_metadata value ≡ Ok metadata → Names dependent.Pod value metadata.owner
unfolding pod_metadata
pod_metadata-names value metadata is = by (namespaced_name value) (optional (codes "labels") label_map value) (listed (codes "ownerReferences") owner_reference value) is
  where
    by : (own : Read NamespacedName) (labels : Read (Option (List Pair))) (listing : Read (List OwnerReference)) →
        (own >>= λ own. labels >>= λ labels. listing >>= λ references. Ok (record { own = own; labels = unwrap_or labels []; owner = owner_of dependent.Pod references })) ≡ Ok metadata →
        (references : List OwnerReference) × (listing ≡ Ok references) × (metadata.owner ≡ owner_of dependent.Pod references)
    by (Ok own) (Ok labels) (Ok references) read =
        let made : PodMetadata = record { own = own; labels = unwrap_or labels []; owner = owner_of dependent.Pod references } in
        let same : metadata ≡ made = cc in
        (references, refl, ap (λ one. one.owner) same)
    by (Err flaw) labels listing read = cc
    by (Ok own) (Err flaw) listing read = cc
    by (Ok own) (Ok labels) (Err flaw) read = cc

controller_metadata-names : (value : Data) (metadata : ControllerMetadata) → controller_metadata value ≡ Ok metadata → Names dependent.Controller value metadata.owner
unfolding controller_metadata
controller_metadata-names value metadata is = by (namespaced_name value) (listed (codes "ownerReferences") owner_reference value) is
  where
    by : (own : Read NamespacedName) (listing : Read (List OwnerReference)) →
        (own >>= λ own. listing >>= λ references. Ok (record { own = own; owner = owner_of dependent.Controller references })) ≡ Ok metadata →
        (references : List OwnerReference) × (listing ≡ Ok references) × (metadata.owner ≡ owner_of dependent.Controller references)
    by (Ok own) (Ok references) read =
        let made : ControllerMetadata = record { own = own; owner = owner_of dependent.Controller references } in
        let same : metadata ≡ made = cc in
        (references, refl, ap (λ one. one.owner) same)
    by (Err flaw) listing read = cc
    by (Ok own) (Err flaw) read = cc

-- ---- objects

pub pod-IsOwnerIn : (value : Data) (item : PodItem) → pod value ≡ Ok item → IsOwnerIn dependent.Pod value item.owner
unfolding pod
pod-IsOwnerIn value item is = by (required (codes "metadata") pod_metadata value) (required (codes "spec") pod_spec value) (optional (codes "status") pod_status value) is refl
  where
    by : (metadata : Read PodMetadata) (spec : Read PodSpec) (status : Read (Option PodStatus)) →
        (metadata >>= λ metadata. spec >>= λ spec. status >>= λ status. Ok (pod_item metadata spec (unwrap_or status no_status))) ≡ Ok item →
        required (codes "metadata") pod_metadata value ≡ metadata → IsOwnerIn dependent.Pod value item.owner
    by (Ok metadata) (Ok spec) (Ok status) read found =
        let same : item ≡ pod_item metadata spec (unwrap_or status no_status) = cc in
        let owner : item.owner ≡ metadata.owner = ap (λ one. one.owner) same in
        let part = required-other (codes "metadata") pod_metadata (listed (codes "ownerReferences") owner_reference) (λ references. metadata.owner ≡ owner_of dependent.Pod references) value metadata
        (λ inner. pod_metadata-names inner metadata) found in
        (part.0, part.1, owner ∙ part.2)
    by (Err flaw) spec status read found = cc
    by (Ok metadata) (Err flaw) status read found = cc
    by (Ok metadata) (Ok spec) (Err flaw) read found = cc

pub controller-IsOwnerIn : (kind : ControllerKind) (value : Data) (item : ControllerItem) → controller kind value ≡ Ok item → IsOwnerIn dependent.Controller value item.owner
unfolding controller
controller-IsOwnerIn kind value item is = by (required (codes "metadata") controller_metadata value) (optional (codes "spec") (controller_spec kind) value) is refl
  where
    by : (metadata : Read ControllerMetadata) (spec : Read (Option ControllerSpec)) →
        (metadata >>= λ metadata. spec >>= λ spec. Ok (controller_item kind metadata (unwrap_or spec no_spec))) ≡ Ok item → required (codes "metadata") controller_metadata value ≡ metadata →
        IsOwnerIn dependent.Controller value item.owner
    by (Ok metadata) (Ok spec) read found =
        let same : item ≡ controller_item kind metadata (unwrap_or spec no_spec) = cc in
        let owner : item.owner ≡ metadata.owner = ap (λ one. one.owner) same in
        let part = required-other (codes "metadata") controller_metadata (listed (codes "ownerReferences") owner_reference)
        (λ references. metadata.owner ≡ owner_of dependent.Controller references) value metadata (λ inner. controller_metadata-names inner metadata) found in
        (part.0, part.1, owner ∙ part.2)
    by (Err flaw) spec read found = cc
    by (Ok metadata) (Err flaw) read found = cc
