-- A valid Namespace is read. For `valid_namespaces_are_read`.
use Rattle.std.proofs.Common.{◌≡◌, [], Ok, codes, unwrap_or, refl}
use Rattle.serde_json.specs.Data.{Data}
use Rattle.np_json.specs.Prelude.{name}
use Rattle.np_objects.specs.Namespaces.{namespace_metadata, namespace_object}
use Rattle.np_objects.specs.Prelude.{label_map, object_by, object_of}
use Rattle.np_objects.specs.declared.namespace.NamespaceItem.{NamespaceItem}
use Rattle.np_objects.specs.declared.object.Object.TheVariants as object
use Rattle.np_meaning.proofs.ValidNames.{label-name, label_map-reads, name-reads, type-read}
use Rattle.np_meaning.proofs.ValidReads.{Reads, object-reads, optional-reads, required-reads}
use Rattle.np_meaning.specs.ValidMembers.{IsClusterMeta, IsDnsLabel, IsLabel, IsMapOf, IsText, IsValidNamespace}

metadata-reads : (value : Data) → IsClusterMeta IsDnsLabel value → Reads (namespace_metadata value)
unfolding namespace_metadata
metadata-reads value is =
    let named = required-reads name (IsText IsDnsLabel) (name-reads IsDnsLabel label-name) (codes "name") value is.name in
    let labelled = optional-reads label_map (IsMapOf IsLabel) label_map-reads (codes "labels") value is.labels in
    (record { name = named.0; labels = unwrap_or labelled.0 [] }, rw ((object-reads value is.object).1, named.1, labelled.1) refl)

pub namespace-valid : (value : Data) → IsValidNamespace value → (read : NamespaceItem) × (object_of value ≡ Ok (object.Namespace read))
unfolding object_of object_by namespace_object
namespace-valid value is =
    let read = required-reads namespace_metadata (IsClusterMeta IsDnsLabel) metadata-reads (codes "metadata") value is.metadata in
    (read.0, rw (type-read (codes "v1") (codes "Namespace") value is.type, read.1) refl)
