-- Services: which pods they serve, and where their ports lead.
use Rattle.std.specs.Prelude.{ℕ, List, Bool, false, ◌&&◌, ◌==◌, not, find, Option, if◌then◌else◌}
use Rattle.std.specs.Option.{option_map_or}
use Rattle.std.specs.Str.{bytes_eq}
use Rattle.np_conns.specs.Prelude.{same_proto}
use Rattle.np_routes.specs.Types.{Named, Number, PortName, ServiceItem, ServicePort, Tcp}
use Rattle.np_labels.specs.Prelude.{meets_selector}
use Rattle.np_rules.specs.Prelude.{PodEnd, has_named, pod}

-- ---- services

-- whether a service has the namespace and the name
abbrev pub is_service : List ℕ → List ℕ → ServiceItem → Bool
is_service namespace name service = bytes_eq service.namespace namespace && bytes_eq service.name name

-- the listed service of a namespace and a name
abbrev pub service_named : List ServiceItem → List ℕ → List ℕ → Option ServiceItem
service_named services namespace name = find (is_service namespace name) services

-- whether a service serves a pod: it is of the pod's namespace, and the pod's labels meet its selector
abbrev pub serves : ServiceItem → PodEnd → Bool
serves service p = not service.external && (bytes_eq service.namespace p.namespace
    && option_map_or (λ selector. meets_selector selector p.labels) service.selector false)

-- ---- ports of services

-- whether a port of a service has the number, or the name
abbrev pub is_named_by : PortName → ServicePort → Bool
is_named_by (Number number) port = port.port == number
is_named_by (Named name) port = option_map_or (λ own. bytes_eq own name) port.name false

-- whether a port of a service is a TCP port of that number or name
abbrev pub is_backend_port : PortName → ServicePort → Bool
is_backend_port named port = same_proto port.proto Tcp && is_named_by named port

-- ---- ports of pods

-- whether a number is that of a TCP port of a pod: the number itself, or that of a container port of that name
abbrev pub is_pod_port : PortName → PodEnd → ℕ → Bool
is_pod_port (Number own) p number = own == number
is_pod_port (Named name) p number = has_named name (record { proto = Tcp; port = number }) (pod p)

-- Whether a TCP port of a service leads to a port of a pod that it serves: to the target at the pod, and where the
-- service is headless to the port itself.
abbrev pub is_target : ServiceItem → ServicePort → PodEnd → ℕ → Bool
is_target service port p number = if service.headless then port.port == number else is_pod_port port.target p number
