use Rattle.std.proofs.Common.{◌||◌, List, length, flat_map, ap, sym, ◌∙◌}
use Rattle.std.proofs.lemmas.List.{take_all, with_items_is}
use Rattle.std.specs.List.{list_any}
use Rattle.np_routes.specs.Prelude.{AskedService, PlacedIngress, asked_leads, leads_to, routes_of_ingress, services_of}
use Rattle.np_routes.proofs.BackendLemmas.{routes-all, routes-next}
use Rattle.np_routes.proofs.asked_services.asked_services.Goals as goal

pub loop-placed-preserved : goal.loop-placed-preserved
loop-placed-preserved c =
    let items = with_items_is c.loop-placed.asked c.add_ingress.new.asked (c.add_ingress.auto.asked ∙ ap length c.deref_mut.ensures.value ∙ sym c.loop-placed.asked.ok.0) in
    let listed = c.in_ok-services.ensures ∙ c.services.ensures in
    record {
      same = ap services_of items ∙ c.in_ok-add_ingress.ensures.services ∙ listed;
      leads = λ p number.
          ap (list_any (asked_leads p number)) items
          ∙ routes-next c.in_ok-services.services c.args.estate.now.services c.ingresses-placed-items.result.now c.loop-placed.placed-index c.placed-item.result p number
          (list_any (asked_leads p number) c.loop-placed.asked.items) (list_any (asked_leads p number) c.add_ingress.new.asked) c.loop-placed-test.true c.placed-item.is listed
          (c.loop-placed.invariant.leads p number)
          (c.in_ok-add_ingress.ensures.leads p number ∙ ap (λ (asked : List AskedService). list_any (asked_leads p number) asked || list_any (leads_to p number)
          (routes_of_ingress c.in_ok-services.services c.placed-item.result.ingress)) c.deref_mut.ensures.value);
    }

pub returns : goal.returns
returns c p number =
    c.loop-placed.invariant.leads p number
    ∙ ap (λ (some : List PlacedIngress). list_any (leads_to p number) (flat_map (λ placed. routes_of_ingress c.args.estate.now.services placed.ingress) some))
    (take_all c.loop-placed.placed-index c.ingresses-placed-items.result.now c.loop-placed-test.false ∙ c.ingresses-placed-items.ensures)
    ∙ routes-all c.args.estate.now p number
