-- Services, and what backends name of them.
use Rattle.std.specs.Prelude.{ℕ, List, Bool, ◌&&◌, map}
use Rattle.std.specs.List.{list_any}
use Rattle.np_conns.specs.Prelude.{same_proto}
use Rattle.np_routes.specs.Types.{AskedService, ServiceItem, ServicePort, Tcp}
use Rattle.np_routes.specs.Services.{is_target, serves}
use Rattle.np_routes.specs.steps.PortSets.{has_own}
use Rattle.np_rules.specs.Prelude.{PodEnd}

-- the services themselves
abbrev pub services_of : List AskedService → List ServiceItem
services_of asked = map (λ one. one.service.now) asked

-- whether a port of a service is a TCP port that backends name, and leads to a port of a pod that the service serves
abbrev pub asked_port_leads : AskedService → PodEnd → ℕ → ServicePort → Bool
asked_port_leads asked p number port = (same_proto port.proto Tcp && has_own asked.ports port) && is_target asked.service.now port p number

-- whether the service serves the pod, and some port of it does
abbrev pub asked_leads : PodEnd → ℕ → AskedService → Bool
asked_leads p number asked = serves asked.service.now p && list_any (asked_port_leads asked p number) asked.service.now.ports
