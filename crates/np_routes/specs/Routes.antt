-- Routes: which ports of a pod the ingresses of its namespace lead to.
use Rattle.std.specs.Prelude.{ℕ, ◌≡◌, List, [], Bool, true, ◌&&◌, map, filter, flat_map, Contains, Option, Some, None}
use Rattle.std.specs.List.{list_any}
use Rattle.std.specs.Str.{bytes_eq}
use Rattle.np_conns.specs.Prelude.{same_proto}
use Rattle.np_routes.specs.Types.{Backend, EstateLists, PlacedIngress, PortName, PortSpot, ServiceItem, ServicePort, Tcp}
use Rattle.np_model.specs.declared.ingress.Backend.TheVariants as backend
use Rattle.np_model.specs.declared.ingress.IngressItem.{IngressItem}
use Rattle.np_routes.specs.Services.{is_backend_port, is_target, service_named, serves}
use Rattle.np_rules.specs.Prelude.{PodEnd}

-- a service and one of its ports that a backend names
pub record Route : Type 0 where
  pub service : ServiceItem
  pub port : ServicePort

-- whether a route leads to a port of a pod
abbrev pub leads_to : PodEnd → ℕ → Route → Bool
leads_to p number route = serves route.service p && is_target route.service route.port p number

-- the routes through the ports of a service that a backend names
abbrev pub routes_through : PortName → Option ServiceItem → List Route
routes_through named None = []
routes_through named (Some service) = map (λ port. record { service = service; port = port }) (filter (is_backend_port named) service.ports)

-- the routes of a backend of an ingress of a namespace
abbrev pub routes_of_backend : List ServiceItem → List ℕ → Backend → List Route
routes_of_backend services namespace (backend.Service name port) = routes_through port (service_named services namespace name)
routes_of_backend services namespace backend.Resource = []

abbrev pub routes_of_ingress : List ServiceItem → IngressItem → List Route
routes_of_ingress services ingress = flat_map (routes_of_backend services ingress.namespace) ingress.backends

-- the routes of all ingresses of a namespace
unfoldable pub routes_in : EstateLists → List ℕ → List Route
routes_in lists namespace = flat_map (λ placed. routes_of_ingress lists.services placed.ingress) (filter (λ placed. bytes_eq placed.ingress.namespace namespace) lists.ingresses)

-- whether some route leads to the TCP port of a pod
abbrev pub is_routed : EstateLists → PodEnd → PortSpot → Bool
is_routed lists p spot = same_proto spot.proto Tcp && list_any (leads_to p spot.port) (routes_in lists p.namespace)

-- ---- the same in words

-- An ingress of the pod's namespace has a backend that names a listed service and one of its TCP ports; the service
-- serves the pod, and the port leads to the number there.
pub record LeadsTo (lists : EstateLists) (p : PodEnd) (number : ℕ) : Type 0 where
  pub placed : PlacedIngress
  pub name : List ℕ
  pub named : PortName
  pub service : ServiceItem
  pub port : ServicePort
  pub is_listed : Contains lists.ingresses placed
  pub in_namespace : placed.ingress.namespace ≡ p.namespace
  pub is_backend : Contains placed.ingress.backends (backend.Service name named)
  pub is_service : service_named lists.services p.namespace name ≡ Some service
  pub serves_it : serves service p ≡ true
  pub is_port : Contains service.ports port
  pub names_it : is_backend_port named port ≡ true
  pub leads : is_target service port p number ≡ true
