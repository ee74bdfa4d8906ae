use Rattle.std.proofs.Common.{◌≡◌, ◌||◌, ℕ, List, get_or, ap, sym, ◌∙◌}
use Rattle.std.proofs.lemmas.Result.{on_ok_weaker}
use Rattle.std.specs.List.{list_any}
use Rattle.np_routes.specs.Prelude.{AskedService, Backend, PortName, asked_leads, has_port, is_same_port, leads_to, routes_of_backend, routes_through, service_named}
use Rattle.np_routes.proofs.AskedLemmas.{asked-within, backend-added, services-kept}
use Rattle.np_routes.proofs.asked_services.add_backend.Goals as goal

pub returns-clause-services : goal.returns-clause-services
returns-clause-services c =
    rw (sym c.index-asked-place.is) (on_ok_weaker c.add.result (λ added.
    services-kept c.args.services.now c.args.asked.now c.in-Some.place c.index-asked-place.result c.add.new.self c.requires c.index-asked-place.is) c.add.ensures)

pub returns-clause-leads : goal.returns-clause-leads
returns-clause-leads c =
    rw (sym c.index-asked-place.is) (on_ok_weaker c.add.result (λ
    (added : (other : PortName) → has_port c.add.new.self other ≡
    (has_port (get_or c.args.asked.now c.in-Some.place c.index-asked-place.result).ports other || is_same_port c.in-Service.port other)) p number.
    backend-added p number c.args.services.now c.args.asked.now c.in-Some.place c.index-asked-place.result c.add.new.self c.in-Service.port
    (service_named c.args.services.now c.args.namespace.now c.as_str.result.now) c.requires
    (asked-within c.args.services.now c.args.asked.now c.in-Some.place c.requires c.in-Some.ensures.0) c.index-asked-place.is c.in-Some.ensures.1
    (λ other. added other ∙ ap (λ (one : AskedService). has_port one.ports other || is_same_port c.in-Service.port other) (sym c.index-asked-place.is))
    ∙ ap (λ (name : List ℕ). list_any (asked_leads p number) c.args.asked.now || list_any (leads_to p number)
    (routes_through c.in-Service.port (service_named c.args.services.now c.args.namespace.now name))) c.as_str.ensures
    ∙ ap (λ (one : Backend). list_any (asked_leads p number) c.args.asked.now || list_any (leads_to p number) (routes_of_backend c.args.services.now c.args.namespace.now one)) (sym c.in-Service.is))
    c.add.ensures)
