-- Owners of objects.
use Rattle.std.specs.Prelude.{ℕ, List, codes, Bool, not, ◌&&◌, Option, option_map, find, unwrap_or, Ok, false}
use Rattle.std.specs.Str.{bytes_eq}
use Rattle.serde_json.specs.Data.{Data}
use Rattle.np_json.specs.Prelude.{Read, flag, must_be_object, name, optional, required, ◌>>=◌, ◌>>◌}
use Rattle.np_objects.specs.ControllerKinds.{is_controller_kind}
use Rattle.np_objects.specs.Types.{Controller, Dependent, OwnerRef, OwnerReference, Pod}

-- An owner reference, whether it counts or not. Owners are known by kind and name, whatever their API group: neither
-- `apiVersion` nor `uid` is read.
unfoldable pub owner_reference : Data → Read OwnerReference
owner_reference value = must_be_object value >> do
  kind ← required (codes "kind") name value
  called ← required (codes "name") name value
  Ok (record { owner = record { kind = kind; name = called }; controls = unwrap_or (← optional (codes "controller") flag value) false })

-- whether owners of that kind count: the node of a pod does not, and of controllers only other controllers do
abbrev pub counts : Dependent → List ℕ → Bool
counts Pod kind = not (bytes_eq kind (codes "Node"))
counts Controller kind = is_controller_kind kind

-- whether a reference names the owner of the object: it controls the object, and counts
abbrev pub names_owner : Dependent → OwnerReference → Bool
names_owner dependent reference = reference.controls && counts dependent reference.owner.kind

-- the owner of an object: the first that a reference names
abbrev pub owner_of : Dependent → List OwnerReference → Option OwnerRef
owner_of dependent references = option_map (λ reference. reference.owner) (find (names_owner dependent) references)
