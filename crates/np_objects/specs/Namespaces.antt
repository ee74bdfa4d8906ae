-- Namespaces.
use Rattle.std.specs.Prelude.{[], codes, unwrap_or, Ok}
use Rattle.serde_json.specs.Data.{Data}
use Rattle.np_json.specs.Prelude.{Read, must_be_object, name, optional, required, ◌>>=◌, ◌>>◌}
use Rattle.np_objects.specs.Labels.{label_map}
use Rattle.np_objects.specs.Types.{NamespaceItem}

-- the metadata of a namespace, which is in no namespace itself
unfoldable pub namespace_metadata : Data → Read NamespaceItem
namespace_metadata value = must_be_object value >> do
  Ok (record { name = (← required (codes "name") name value); labels = unwrap_or (← optional (codes "labels") label_map value) [] })

-- a namespace, of which the metadata alone is read
unfoldable pub namespace_object : Data → Read NamespaceItem
namespace_object value = required (codes "metadata") namespace_metadata value
