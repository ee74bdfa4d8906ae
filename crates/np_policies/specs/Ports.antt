-- Shapes of port entries (Kubernetes API reference, NetworkPolicyPort; network-policy-api reference,
-- AdminNetworkPolicyPort).
use Rattle.std.specs.Prelude.{ℕ, ℤ, List, [], ◌∷◌, length, Bool, false, not, ◌==◌, nat_le, nat_lt, if◌then◌else◌, Option, Some, None, unwrap_or, codes, Ok}
use Rattle.std.specs.Option.{option_map_or}
use Rattle.serde_json.specs.Data.{Data}
use Rattle.np_policies.specs.Types.{AdminPort, BadField, BadPort, Name, NetPort, Number, PortValue, Proto, Tcp}
use Rattle.np_json.specs.Prelude.{Read, as_whole, has_member, has_one_of, must_be_object, optional, optional_or, passing, port, port_number, protocol_name, refuse_if, refuse_member_if, required, text, ◌>>=◌, ◌>>◌}
use Rattle.np_model.specs.Prelude.{is_word}
use Rattle.np_model.specs.declared.admin_policy.AdminPort.TheVariants as admin
use Rattle.np_model.specs.declared.network_policy.NetPort.TheVariants as net

-- the member `protocol`, which is TCP where it is missing
unfoldable pub protocol : Data → Read Proto
protocol value = optional_or Tcp (codes "protocol") protocol_name value

-- the name of a container port: the empty text is BadPort, another that is no word BadField
unfoldable pub container_port_name : Data → Read (List ℕ)
container_port_name value = do
  s ← text value
  refuse_if (length s == 0) BadPort
  refuse_if (not (is_word s)) BadField
  Ok s

abbrev pub port_value_by : Option ℤ → Data → Read PortValue
port_value_by (Some n) value = do Ok (Number (← port_number n))
port_value_by None value = do Ok (Name (← container_port_name value))

-- `port` of a NetworkPolicy: a port's number or name
unfoldable pub port_value : Data → Read PortValue
port_value value = port_value_by (as_whole value) value

-- the port's number, if it has one
abbrev pub port_number_of : Option PortValue → Option ℕ
port_number_of (Some (Number number)) = Some number
port_number_of other = None

-- whether a range may end there
abbrev pub may_end : Option ℕ → ℕ → Bool
may_end first last = option_map_or (λ number. nat_le number last) first false

-- `endPort`, behind a `port` that is a number and not above it
unfoldable pub end_port : Option ℕ → Data → Read ℕ
end_port first value = passing (may_end first) BadPort (port value)

-- one port, the ports up to another, a named port, or all ports
abbrev pub net_port_by : Proto → Option PortValue → Option ℕ → NetPort
net_port_by proto None last = net.Span proto 1 65535
net_port_by proto (Some (Number first)) last = net.Span proto first (unwrap_or last first)
net_port_by proto (Some (Name name)) last = net.Named proto name

-- an entry of `ports` of a NetworkPolicy
unfoldable pub net_port : Data → Read NetPort
net_port value = must_be_object value >> do
  proto ← protocol value
  port ← optional (codes "port") port_value value
  Ok (net_port_by proto port (← optional (codes "endPort") (end_port (port_number_of port)) value))

-- `portNumber` of an admin policy
unfoldable pub one_port : Data → Read AdminPort
one_port value = must_be_object value >> do
  proto ← protocol value
  number ← required (codes "port") port value
  Ok (admin.Span proto number number)

-- `portRange` of an admin policy
unfoldable pub port_range : Data → Read AdminPort
port_range value = must_be_object value >> do
  proto ← protocol value
  first ← required (codes "start") port value
  last ← required (codes "end") port value
  refuse_member_if (codes "end") (nat_lt last first) BadPort
  Ok (admin.Span proto first last)

-- `namedPort` of an admin policy
unfoldable pub named_port : Data → Read AdminPort
named_port value = do Ok (admin.Named (← container_port_name value))

-- the one member of the three that is there
abbrev pub admin_port_member : Data → Read AdminPort
admin_port_member value =
    if has_member (codes "portNumber") value then required (codes "portNumber") one_port value
    else if has_member (codes "portRange") value then required (codes "portRange") port_range value
    else required (codes "namedPort") named_port value

-- an entry of `ports` of an admin policy
unfoldable pub admin_port : Data → Read AdminPort
admin_port value = must_be_object value >> do
  refuse_if (not (has_one_of (codes "portNumber" ∷ codes "portRange" ∷ codes "namedPort" ∷ []) value)) BadPort
  admin_port_member value
