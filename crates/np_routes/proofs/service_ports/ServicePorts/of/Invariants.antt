use Rattle.std.proofs.Common.{◌≡◌, take}
use Rattle.std.specs.List.{list_any}
use Rattle.np_routes.specs.Prelude.{PortName, has_port, is_backend_port}
use Rattle.np_routes.proofs.service_ports.ServicePorts.of.Given as goal

-- the set has what the TCP ports so far are named by
abbrev pub invariant-loop-port : goal.invariant-loop-port
invariant-loop-port l = (named : PortName) → has_port l.ports named ≡ list_any (is_backend_port named) (take l.port-index l.port-items)
