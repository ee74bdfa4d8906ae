use Rattle.std.proofs.Common.{◌≡◌, ◌||◌, ℕ, flat_map, take}
use Rattle.std.specs.List.{list_any}
use Rattle.np_routes.specs.Prelude.{asked_leads, leads_to, routes_of_backend, services_of}
use Rattle.np_routes.proofs.asked_services.add_ingress.Given as goal
use Rattle.np_rules.specs.Prelude.{PodEnd}

-- what is named leads where it did, and where the backends so far do
abbrev pub invariant-loop-backend : goal.invariant-loop-backend
invariant-loop-backend l = record {
  same : services_of l.asked ≡ l.services;
  leads : (p : PodEnd) (number : ℕ) →
      list_any (asked_leads p number) l.asked ≡ (list_any (asked_leads p number) l.fn.asked || list_any (leads_to p number)
      (flat_map (routes_of_backend l.services l.ingress.namespace) (take l.backend-index l.backend-items)));
}
