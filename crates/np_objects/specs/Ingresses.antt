-- Ingresses.
use Rattle.std.specs.Prelude.{ℕ, ℤ, List, [], ◌∷◌, ◌++◌, length, codes, Bool, true, false, not, ◌==◌, Some, unwrap_or, Ok}
use Rattle.std.specs.List.{flat_map}
use Rattle.std.specs.Option.{option_to_list}
use Rattle.serde_json.specs.Data.{Data}
use Rattle.np_json.specs.Prelude.{Read, has_one_of, listed, must_be_object, namespaced_name, optional, optional_or, port, refuse_if, required, text, text_of, whole_of, ◌>>=◌, ◌>>◌}
use Rattle.np_objects.specs.Types.{BadField, Named, NamespacedName, Number, PortName}
use Rattle.np_json.specs.declared.field.Field.{Field}
use Rattle.np_json.specs.declared.field.Field.TheVariants.{Missing, Wrong, Given}
use Rattle.np_objects.specs.Controllers.{is_zero}
use Rattle.np_model.specs.declared.ingress.Backend.{Backend}
use Rattle.np_model.specs.declared.ingress.Backend.TheVariants.{Service, Resource}
use Rattle.np_model.specs.declared.ingress.IngressItem.{IngressItem}

-- whether there is a number; the number 0 counts as missing
abbrev pub is_numbered : Field ℤ → Bool
is_numbered Missing = false
is_numbered Wrong = true
is_numbered (Given n) = not (is_zero (Some n))

-- whether there is a name; the empty one counts as missing
abbrev pub has_a_name : Field (List ℕ) → Bool
has_a_name Missing = false
has_a_name Wrong = true
has_a_name (Given s) = not (length s == 0)

-- whether exactly one of the two holds
abbrev pub is_one : Bool → Bool → Bool
is_one true other = not other
is_one false other = other

-- the one that is there of a number and a name
abbrev pub number_or_name : Bool → Data → Read PortName
number_or_name true value = do Ok (Number (← required (codes "number") port value))
number_or_name false value = do Ok (Named (← required (codes "name") text value))

-- a port of a service: exactly one of its number and its name
unfoldable pub backend_port : Data → Read PortName
backend_port value = must_be_object value >> do
  refuse_if (not (is_one (is_numbered (whole_of (codes "number") value)) (has_a_name (text_of (codes "name") value)))) BadField
  number_or_name (is_numbered (whole_of (codes "number") value)) value

-- a service, and one of its ports
unfoldable pub backend_service : Data → Read Backend
backend_service value = must_be_object value >> do
  Ok (Service (← required (codes "name") text value) (← required (codes "port") backend_port value))

-- a backend: exactly one of a service and a resource
unfoldable pub backend : Data → Read Backend
backend value = must_be_object value >> do
  refuse_if (not (has_one_of (codes "service" ∷ codes "resource" ∷ []) value)) BadField
  optional_or Resource (codes "service") backend_service value

-- a path of a rule
unfoldable pub path : Data → Read Backend
path value = must_be_object value >> required (codes "backend") backend value

-- the paths of a rule
unfoldable pub http : Data → Read (List Backend)
http value = must_be_object value >> listed (codes "paths") path value

-- a rule
unfoldable pub rule : Data → Read (List Backend)
rule value = must_be_object value >> optional_or [] (codes "http") http value

-- the spec of an ingress: the default backend, and then those of the rules
unfoldable pub ingress_spec : Data → Read (List Backend)
ingress_spec value = must_be_object value >> do
  Ok (option_to_list (← optional (codes "defaultBackend") backend value) ++ flat_map (λ backends. backends) (← listed (codes "rules") rule value))

abbrev pub ingress_item : NamespacedName → List Backend → IngressItem
ingress_item own backends = record { namespace = own.namespace; name = own.name; backends = backends }

-- an ingress
unfoldable pub ingress : Data → Read IngressItem
ingress value = do
  Ok (ingress_item (← required (codes "metadata") namespaced_name value) (unwrap_or (← optional (codes "spec") ingress_spec value) []))
