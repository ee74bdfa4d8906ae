-- Backends that lead nowhere, or not where they seem to.
use Rattle.std.specs.Prelude.{ℕ, List, ◌++◌, Bool, ◌||◌, not, codes, decimal, flat_map, Option, Some, None, is_none, option_map, option_to_list, if◌then◌else◌}
use Rattle.std.specs.List.{enumerate_from, list_any}
use Rattle.np_routes.specs.Types.{Backend, EstateLists, PlacedIngress, PortName, ServiceItem}
use Rattle.np_model.specs.declared.ingress.Backend.TheVariants as backend
use Rattle.np_routes.specs.Services.{is_backend_port, service_named}
use Rattle.np_routes.specs.declared.route_note.RouteFlaw.{RouteFlaw}
use Rattle.np_routes.specs.declared.route_note.RouteFlaw.TheVariants.{NoService, NoSelector, NoPort, Headless, Resource}
use Rattle.np_routes.specs.declared.route_note.RouteNote.{RouteNote}

-- ---- flaws

-- whether a service serves no pods, whatever their labels are
abbrev pub serves_none : ServiceItem → Bool
serves_none service = service.external || is_none service.selector

-- the first flaw of a backend that names a port of a service
abbrev pub service_flaw : PortName → ServiceItem → Option RouteFlaw
service_flaw named service =
    if serves_none service then Some NoSelector
    else (if not (list_any (is_backend_port named) service.ports) then Some NoPort
    else (if service.headless then Some Headless else None))

-- the first flaw of a backend that names a port of a service, which may not be listed
abbrev pub listed_flaw : PortName → Option ServiceItem → Option RouteFlaw
listed_flaw named None = Some NoService
listed_flaw named (Some service) = service_flaw named service

-- the first flaw of a backend of an ingress of a namespace
abbrev pub backend_flaw : List ServiceItem → List ℕ → Backend → Option RouteFlaw
backend_flaw services namespace (backend.Service name port) = listed_flaw port (service_named services namespace name)
backend_flaw services namespace backend.Resource = Some Resource

-- ---- notes

-- the note of a backend with its number, where it has a flaw
abbrev pub note_of : List ServiceItem → PlacedIngress → ℕ × Backend → Option RouteNote
note_of services placed numbered = option_map (λ flaw. record { item = placed.item; backend = numbered.0; flaw = flaw }) (backend_flaw services placed.ingress.namespace numbered.1)

-- the notes of an ingress, whose backends are numbered from 1
abbrev pub notes_of_ingress : List ServiceItem → PlacedIngress → List RouteNote
notes_of_ingress services placed = flat_map (λ numbered. option_to_list (note_of services placed numbered)) (enumerate_from 1 placed.ingress.backends)

-- the notes of all ingresses
unfoldable pub notes_of_routes : EstateLists → List RouteNote
notes_of_routes lists = flat_map (notes_of_ingress lists.services) lists.ingresses

-- ---- texts

abbrev pub flaw_text : RouteFlaw → List ℕ
flaw_text NoService = codes "NoService"
flaw_text NoSelector = codes "NoSelector"
flaw_text NoPort = codes "NoPort"
flaw_text Headless = codes "Headless"
flaw_text Resource = codes "Resource"

abbrev pub route_note_text : RouteNote → List ℕ
route_note_text note = codes "item " ++ decimal note.item ++ codes ": backend " ++ decimal note.backend ++ codes ": " ++ flaw_text note.flaw
