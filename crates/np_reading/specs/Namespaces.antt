-- The labels of namespaces.
use Rattle.std.specs.Prelude.{ℕ, List, [], ◌∷◌, ◌++◌, Option, Some, codes}
use Rattle.std.specs.List.{slice_get}
use Rattle.std.specs.Option.{option_and_then}
use Rattle.np_reading.specs.Types.{Item, ObjectName, Pair}
use Rattle.np_items.specs.declared.item.Item.TheVariants as item
use Rattle.np_labels.specs.Prelude.{labels_of}
use Rattle.np_objects.specs.declared.object.Object.TheVariants as object
use Rattle.np_owners.specs.Prelude.{place_of}

abbrev pub labels_in : Option Item → List Pair
labels_in (Some (item.Object (object.Namespace namespace))) = namespace.labels
labels_in other = []

abbrev pub namespace_name : List ℕ → ObjectName
namespace_name name = record { kind = codes "Namespace"; namespace = []; name = name }

-- the labels of the Namespace object of that name, and none where it is not listed
abbrev pub listed_labels : List Item → List ℕ → List Pair
listed_labels items name = labels_in (option_and_then (slice_get items) (place_of items (namespace_name name)))

-- the label that says the name of a namespace
abbrev pub name_label : List ℕ → Pair
name_label name = record { key = codes "kubernetes.io/metadata.name"; value = name }

-- The labels of a namespace: those of its object, and its name, whatever its object says of that. One whose object is
-- not listed has no label but its name, and no note says so.
abbrev pub namespace_labels : List Item → List ℕ → List Pair
namespace_labels items name = labels_of (listed_labels items name ++ (name_label name ∷ []))
