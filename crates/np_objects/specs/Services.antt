-- Services.
use Rattle.std.specs.Prelude.{ℕ, ℤ, List, [], ◌∷◌, map, codes, Bool, false, if◌then◌else◌, Option, Some, None, option_map, unwrap_or, Ok}
use Rattle.std.specs.Option.{option_flatten, option_map_or}
use Rattle.std.specs.Str.{bytes_eq}
use Rattle.serde_json.specs.Data.{Data}
use Rattle.np_objects.specs.Types.{Named, NamespacedName, Number, PortName, ServiceSpec, Tcp}
use Rattle.np_json.specs.Prelude.{Read, as_whole, labels, listed, must_be_object, namespaced_name, optional, port, port_number, protocol_name, required, text, ◌>>=◌, ◌>>◌}
use Rattle.np_labels.specs.Prelude.{label_requirement}
use Rattle.np_labels.specs.declared.selector.Selector.{Selector}
use Rattle.np_objects.specs.Controllers.{is_zero}
use Rattle.np_objects.specs.Ports.{port_name}
use Rattle.np_model.specs.declared.service.ServiceItem.{ServiceItem}
use Rattle.np_model.specs.declared.service.ServicePort.{ServicePort}

-- a port by its number
unfoldable pub by_number : ℤ → Read (Option PortName)
by_number n = do Ok (Some (Number (← port_number n)))

-- a port by its name; the empty text counts as missing
unfoldable pub by_name : Data → Read (Option PortName)
by_name value = do Ok (option_map Named (← port_name value))

-- the number 0 counts as missing, and what is no whole number is to be a name
abbrev pub target_by : Option ℤ → Data → Read (Option PortName)
target_by (Some n) value = if is_zero (Some n) then Ok None else by_number n
target_by None value = by_name value

-- a port of the pods behind a service
unfoldable pub target_port : Data → Read (Option PortName)
target_port value = target_by (as_whole value) value

-- a port of a service; it leads to the same port of the pods unless another is named
unfoldable pub service_port : Data → Read ServicePort
service_port value = must_be_object value >> do
  name ← optional (codes "name") port_name value
  proto ← optional (codes "protocol") protocol_name value
  number ← required (codes "port") port value
  target ← optional (codes "targetPort") target_port value
  Ok (record { name = option_flatten name; proto = unwrap_or proto Tcp; port = number; target = unwrap_or (option_flatten target) (Number number) })

-- the labels of the pods that a service serves; it serves none where none are named
abbrev pub selector_of : List (List ℕ × List ℕ) → Option Selector
selector_of [] = None
selector_of (entry ∷ entries) = Some (record { requirements = label_requirement entry ∷ map label_requirement entries })

-- whether there is a text, and it is that one
abbrev pub is_text : Option (List ℕ) → List ℕ → Bool
is_text found text = option_map_or (λ own. bytes_eq own text) found false

-- the spec of a service
unfoldable pub service_spec : Data → Read ServiceSpec
service_spec value = must_be_object value >> do
  kind ← optional (codes "type") text value
  cluster_ip ← optional (codes "clusterIP") text value
  selector ← optional (codes "selector") labels value
  ports ← listed (codes "ports") service_port value
  Ok (record { selector = selector_of (unwrap_or selector []); headless = is_text cluster_ip (codes "None"); external = is_text kind (codes "ExternalName"); ports = ports })

abbrev pub service_item : NamespacedName → ServiceSpec → ServiceItem
service_item own spec = record { namespace = own.namespace; name = own.name; selector = spec.selector; headless = spec.headless; external = spec.external; ports = spec.ports }

-- a service
unfoldable pub service : Data → Read ServiceItem
service value = do Ok (service_item (← required (codes "metadata") namespaced_name value) (← required (codes "spec") service_spec value))
