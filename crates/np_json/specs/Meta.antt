-- What every object says of itself: its type, and its name and namespace.
use Rattle.std.specs.Prelude.{ℕ, List, length, not, ◌==◌, if◌then◌else◌, codes, unwrap_or, Ok}
use Rattle.serde_json.specs.Data.{Data}
use Rattle.np_json.specs.Scalars.{text, name}
use Rattle.np_json.specs.Shapes.{Read, ◌>>=◌, ◌>>◌, must_be_object, optional, refuse_if, required}
use Rattle.np_model.specs.Prelude.{is_name}
use Rattle.np_json.specs.Types.{BadName, NamespacedName}
use Rattle.np_json.specs.declared.meta.TypeMeta.{TypeMeta}

-- an object
unfoldable pub type_meta : Data → Read TypeMeta
type_meta value = must_be_object value >> do
  Ok (record { api_version = (← required (codes "apiVersion") text value); kind = (← required (codes "kind") text value) })

-- the empty text stands for `default`
abbrev pub or_default : List ℕ → List ℕ
or_default s = if length s == 0 then codes "default" else s

-- a text that is empty or a name
unfoldable pub namespace : Data → Read (List ℕ)
namespace value = text value >>= λ s. refuse_if (not (is_name (or_default s))) BadName >> Ok (or_default s)

-- the metadata of an object in a namespace
unfoldable pub namespaced_name : Data → Read NamespacedName
namespaced_name value = must_be_object value >> do
  called ← required (codes "name") name value
  Ok (record { namespace = unwrap_or (← optional (codes "namespace") namespace value) (codes "default"); name = called })
