use Rattle.std.proofs.Common.{◌≡◌, ℕ, false, take}
use Rattle.std.specs.List.{list_any}
use Rattle.np_routes.specs.Prelude.{asked_leads, services_of}
use Rattle.np_routes.proofs.asked_services.none_asked.Given as goal
use Rattle.np_rules.specs.Prelude.{PodEnd}

-- the services so far, of which nothing is named
abbrev pub invariant-loop-service : goal.invariant-loop-service
invariant-loop-service l = record {
  same : services_of l.made.items ≡ take l.service-index l.listed;
  none : (p : PodEnd) (number : ℕ) → list_any (asked_leads p number) l.made.items ≡ false;
}
