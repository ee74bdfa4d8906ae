use Rattle.std.proofs.Common.{◌≡◌, ℕ, flat_map, take}
use Rattle.std.specs.List.{list_any}
use Rattle.np_routes.specs.Prelude.{asked_leads, leads_to, routes_of_ingress, services_of}
use Rattle.np_routes.proofs.asked_services.asked_services.Given as goal
use Rattle.np_rules.specs.Prelude.{PodEnd}

-- what is named so far leads where the routes of the ingresses so far do
abbrev pub invariant-loop-placed : goal.invariant-loop-placed
invariant-loop-placed l = record {
  same : services_of l.asked.items ≡ l.fn.estate.services;
  leads : (p : PodEnd) (number : ℕ) →
      list_any (asked_leads p number) l.asked.items ≡ list_any (leads_to p number) (flat_map (λ placed. routes_of_ingress l.fn.estate.services placed.ingress) (take l.placed-index l.placed-items));
}
