-- Sets of numbers and names of ports.
use Rattle.std.specs.Prelude.{◌≡◌, ℕ, List, Bool, false, ◌&&◌, ◌||◌, ◌==◌}
use Rattle.std.specs.BTreeSet.{BTreeSet, contains, contains_by}
use Rattle.std.specs.Borrow.{Bor}
use Rattle.std.specs.Cmp.Lexicographic.{slice_cmp}
use Rattle.std.specs.List.{list_any}
use Rattle.std.specs.Option.{option_map_or}
use Rattle.std.specs.Ordering.{nat_cmp}
use Rattle.std.specs.Str.{bytes_eq}
use Rattle.np_conns.specs.Prelude.{same_proto}
use Rattle.np_routes.specs.Types.{Named, NamedPort, Number, PortName, PortSet, ServiceItem, ServicePort, Tcp}
use Rattle.np_routes.specs.Services.{is_backend_port}
use Rattle.np_rules.specs.Prelude.{PodEnd}

-- whether two ports are the same number, or the same name
abbrev pub is_same_port : PortName → PortName → Bool
is_same_port (Number one) (Number other) = one == other
is_same_port (Named one) (Named other) = bytes_eq one other
is_same_port (Number one) (Named other) = false
is_same_port (Named one) (Number other) = false

-- whether a set of names has one
abbrev pub has_text : BTreeSet (Bor (List ℕ)) → List ℕ → Bool
has_text names text = contains_by (λ key. slice_cmp nat_cmp text key.now) names

-- whether a set has a number or a name
abbrev pub has_port : PortSet → PortName → Bool
has_port set (Number number) = contains nat_cmp set.numbers number
has_port set (Named name) = has_text set.names name

-- whether it has the number or the name of a port of a service
abbrev pub has_own : PortSet → ServicePort → Bool
has_own set port = has_port set (Number port.port) || option_map_or (λ name. has_port set (Named name)) port.name false

-- what backends may name of a service: the numbers and the names of its TCP ports
abbrev pub HoldsBackendPorts : ServiceItem → PortSet → Type 0
HoldsBackendPorts service set = (named : PortName) → has_port set named ≡ list_any (is_backend_port named) service.ports

-- ---- at a pod

-- whether a container port has a name that is held, and is the TCP port of a number
abbrev pub is_named_in : (PortName → Bool) → ℕ → NamedPort → Bool
is_named_in holds number port = holds (Named port.name) && (same_proto Tcp port.proto && (number == port.number))

-- whether a number is held, or is that of a TCP port of the pod whose name is
abbrev pub held_at : (PortName → Bool) → PodEnd → ℕ → Bool
held_at holds p number = holds (Number number) || list_any (is_named_in holds number) p.ports

-- so it is where a set holds them
abbrev pub at_pod : PortSet → PodEnd → ℕ → Bool
at_pod set p number = held_at (has_port set) p number
