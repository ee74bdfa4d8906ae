-- Ports of containers, and what they share with those of services.
use Rattle.std.specs.Prelude.{ℕ, List, codes, Option, Some, None, unwrap_or, Ok}
use Rattle.std.specs.Option.{option_flatten}
use Rattle.serde_json.specs.Data.{Data}
use Rattle.np_objects.specs.Types.{NamedPort, Proto, Tcp}
use Rattle.np_json.specs.Prelude.{Read, must_be_object, optional, port, protocol_name, required, word, ◌>>=◌, ◌>>◌}
use Rattle.np_objects.specs.Lists.{unless_empty}

-- a word; the empty text counts as missing
unfoldable pub port_name : Data → Read (Option (List ℕ))
port_name value = do Ok (unless_empty (← word value))

-- a port that has a name
abbrev pub if_named : Option (List ℕ) → Proto → ℕ → Option NamedPort
if_named None proto number = None
if_named (Some name) proto number = Some (record { name = name; proto = proto; number = number })

-- a container port, where it has a name
unfoldable pub container_port : Data → Read (Option NamedPort)
container_port value = must_be_object value >> do
  name ← optional (codes "name") port_name value
  proto ← optional (codes "protocol") protocol_name value
  Ok (if_named (option_flatten name) (unwrap_or proto Tcp) (← required (codes "containerPort") port value))
