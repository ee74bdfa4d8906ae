-- Where routes lead. For `ingresses_lead_as_the_api_says` and crates above.
use Rattle.std.proofs.Common.{◌≡◌, ◌≢◌, ℕ, List, [], ◌∷◌, Bool, true, false, ◌&&◌, ◌||◌, Contains, Option, Some, None, flat_map, refl, sym, ap, ◌∙◌, if◌then◌else◌}
use Rattle.std.specs.Prelude.{◌↔◌, filter}
use Rattle.std.specs.Cmp.Lexicographic.{bytes_decides}
use Rattle.std.specs.List.{list_any}
use Rattle.std.proofs.lemmas.Bool.{and_from, and_left, and_parts, false≢true}
use Rattle.std.proofs.lemmas.List.Folds.{Any-from_list_any, list_any-append, list_any-from_Any}
use Rattle.np_conns.specs.Prelude.{same_proto}
use Rattle.np_routes.specs.Prelude.{Backend, EstateLists, LeadsTo, PlacedIngress, PortName, PortSpot, Proto, Sctp, ServiceItem, ServicePort, Tcp, Udp, is_backend_port, is_routed, is_target, leads_to, routes_in, routes_of_backend, routes_of_ingress, routes_through, serves, service_named}
use Rattle.np_model.specs.declared.ingress.Backend.TheVariants as backend
use Rattle.np_rules.proofs.StrangerLemmas.{any-map}
use Rattle.np_rules.specs.Prelude.{PodEnd}
use Rattle.std.specs.Str.{bytes_eq}

-- ---- lists of which some item passes

-- an item that passes
pub some_passes : {X : Type 0} (test : X → Bool) (xs : List X) → list_any test xs ≡ true → (x : X) × Contains xs x × (test x ≡ true)
some_passes test xs any =
    let found = Any-from_list_any test xs any in
    (found.1, (found.0, found.2, found.3), found.4)

-- makes the list pass
pub passes_some : {X : Type 0} (test : X → Bool) (xs : List X) (x : X) → Contains xs x → test x ≡ true → list_any test xs ≡ true
passes_some test xs x has is = list_any-from_Any test xs (has.0, x, has.1, has.2, is)

pub list_any-flat_map : {X Y : Type 0} (test : Y → Bool) (f : X → List Y) (xs : List X) → list_any test (flat_map f xs) ≡ list_any (λ x. list_any test (f x)) xs
list_any-flat_map test f [] = refl
list_any-flat_map test f (x ∷ xs) = list_any-append test (f x) (flat_map f xs) ∙ ap (λ (b : Bool). list_any test (f x) || b) (list_any-flat_map test f xs)

list_any-filter : {X : Type 0} (test keep : X → Bool) (xs : List X) → list_any test (filter keep xs) ≡ list_any (λ x. keep x && test x) xs
list_any-filter test keep [] = refl
list_any-filter {X} test keep (x ∷ xs) = by (keep x) (list_any-filter test keep xs)
  where
    by : (kept : Bool) → list_any test (filter keep xs) ≡ list_any (λ x. keep x && test x) xs →
        list_any test (if kept then x ∷ filter keep xs else filter keep xs) ≡ ((kept && test x) || list_any (λ x. keep x && test x) xs)
    by true rest = ap (λ (b : Bool). test x || b) rest
    by false rest = rest

-- ---- routes, ingress by ingress and port by port

-- whether a port of a service is named by the backend, and leads to the number
abbrev pub port_leads : PodEnd → ℕ → PortName → ServiceItem → ServicePort → Bool
port_leads p number named service port = is_backend_port named port && leads_to p number (record { service = service; port = port })

pub through-ports : (p : PodEnd) (number : ℕ) (named : PortName) (service : ServiceItem) →
    list_any (leads_to p number) (routes_through named (Some service)) ≡ list_any (port_leads p number named service) service.ports
through-ports p number named service =
    any-map (leads_to p number) (λ port. record { service = service; port = port }) (filter (is_backend_port named) service.ports)
    ∙ list_any-filter (λ port. leads_to p number (record { service = service; port = port })) (is_backend_port named) service.ports

module _ (lists : EstateLists) (p : PodEnd) (number : ℕ) where
  abbrev pub backend_leads : List ℕ → Backend → Bool
  backend_leads namespace one = list_any (leads_to p number) (routes_of_backend lists.services namespace one)

  abbrev pub ingress_leads : PlacedIngress → Bool
  ingress_leads placed = bytes_eq placed.ingress.namespace p.namespace && list_any (leads_to p number) (routes_of_ingress lists.services placed.ingress)

  pub by_ingresses : list_any (leads_to p number) (routes_in lists p.namespace) ≡ list_any ingress_leads lists.ingresses
  unfolding routes_in
  by_ingresses =
      list_any-flat_map (leads_to p number) (λ placed. routes_of_ingress lists.services placed.ingress) (filter (λ placed. bytes_eq placed.ingress.namespace p.namespace) lists.ingresses)
      ∙ list_any-filter (λ placed. list_any (leads_to p number) (routes_of_ingress lists.services placed.ingress)) (λ placed. bytes_eq placed.ingress.namespace p.namespace) lists.ingresses

  pub by_backends : (placed : PlacedIngress) →
      list_any (leads_to p number) (routes_of_ingress lists.services placed.ingress) ≡ list_any (backend_leads placed.ingress.namespace) placed.ingress.backends
  by_backends placed = list_any-flat_map (leads_to p number) (routes_of_backend lists.services placed.ingress.namespace) placed.ingress.backends

  -- ---- a route in the words of the API

  module _ (placed : PlacedIngress) (listed : Contains lists.ingresses placed) (own : placed.ingress.namespace ≡ p.namespace) where
    of_service : (name : List ℕ) (named : PortName) (found : Option ServiceItem) → Contains placed.ingress.backends (backend.Service name named) →
        service_named lists.services placed.ingress.namespace name ≡ found → list_any (leads_to p number) (routes_through named found) ≡ true → LeadsTo lists p number
    of_service name named None has is leads = absurd (false≢true leads)
    of_service name named (Some service) has is leads =
        let port = some_passes (port_leads p number named service) service.ports (sym (through-ports p number named service) ∙ leads) in
        let both = and_parts (is_backend_port named port.0) (leads_to p number (record { service = service; port = port.0 })) port.2 in
        let ends = and_parts (serves service p) (is_target service port.0 p number) both.1 in
        record {
          placed = placed;
          name = name;
          named = named;
          service = service;
          port = port.0;
          is_listed = listed;
          in_namespace = own;
          is_backend = has;
          is_service = ap (λ (namespace : List ℕ). service_named lists.services namespace name) (sym own) ∙ is;
          serves_it = ends.0;
          is_port = port.1;
          names_it = both.0;
          leads = ends.1;
        }

    of_backend : (one : Backend) → Contains placed.ingress.backends one → backend_leads placed.ingress.namespace one ≡ true → LeadsTo lists p number
    of_backend (backend.Service name named) has leads = of_service name named (service_named lists.services placed.ingress.namespace name) has refl leads
    of_backend backend.Resource has leads = absurd (false≢true leads)

  -- a route gives one
  leads-from : list_any (leads_to p number) (routes_in lists p.namespace) ≡ true → LeadsTo lists p number
  leads-from leads =
      let ingress = some_passes ingress_leads lists.ingresses (sym by_ingresses ∙ leads) in
      let both = and_parts (bytes_eq ingress.0.ingress.namespace p.namespace) (list_any (leads_to p number) (routes_of_ingress lists.services ingress.0.ingress)) ingress.2 in
      let one = some_passes (backend_leads ingress.0.ingress.namespace) ingress.0.ingress.backends (sym (by_backends ingress.0) ∙ both.1) in
      of_backend ingress.0 ingress.1 ((bytes_decides ingress.0.ingress.namespace p.namespace).0 both.0) one.0 one.1 one.2

  -- and it is a route
  leads-to : LeadsTo lists p number → list_any (leads_to p number) (routes_in lists p.namespace) ≡ true
  leads-to route =
      let port = passes_some (port_leads p number route.named route.service) route.service.ports route.port route.is_port (and_from _ _ route.names_it (and_from _ _ route.serves_it route.leads)) in
      let service = ap (λ (namespace : List ℕ). service_named lists.services namespace route.name) route.in_namespace ∙ route.is_service in
      let through = ap (λ (found : Option ServiceItem). list_any (leads_to p number) (routes_through route.named found)) service ∙ through-ports p number route.named route.service ∙ port in
      let one = passes_some (backend_leads route.placed.ingress.namespace) route.placed.ingress.backends (backend.Service route.name route.named) route.is_backend through in
      by_ingresses ∙ passes_some ingress_leads lists.ingresses route.placed route.is_listed
      (and_from _ _ ((bytes_decides route.placed.ingress.namespace p.namespace).1 route.in_namespace) (by_backends route.placed ∙ one))

-- ---- TCP ports

-- a TCP port is routed exactly where the API says so
pub is_routed-leads : (lists : EstateLists) (p : PodEnd) (spot : PortSpot) → spot.proto ≡ Tcp → (is_routed lists p spot ≡ true) ↔ LeadsTo lists p spot.port
is_routed-leads lists p spot is = (
  λ routed. leads-from lists p spot.port (and_parts (same_proto spot.proto Tcp) (list_any (leads_to p spot.port) (routes_in lists p.namespace)) routed).1,
  λ route. and_from _ _ (ap (λ (proto : Proto). same_proto proto Tcp) is) (leads-to lists p spot.port route),
)

other_proto : (proto : Proto) → proto ≢ Tcp → same_proto proto Tcp ≡ false
other_proto Tcp other = absurd (other refl)
other_proto Udp other = refl
other_proto Sctp other = refl

-- and a port of another protocol never is
pub is_routed-others : (lists : EstateLists) (p : PodEnd) (spot : PortSpot) → spot.proto ≢ Tcp → is_routed lists p spot ≡ false
is_routed-others lists p spot other = and_left (same_proto spot.proto Tcp) _ (other_proto spot.proto other)
