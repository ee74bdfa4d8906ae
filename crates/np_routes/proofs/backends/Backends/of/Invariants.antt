use Rattle.std.proofs.Common.{◌≡◌, ℕ, take}
use Rattle.std.specs.List.{list_any}
use Rattle.np_routes.specs.Prelude.{asked_leads, target_leads, targets_in}
use Rattle.np_routes.proofs.backends.Backends.of.Given as goal
use Rattle.np_rules.specs.Prelude.{PodEnd}

-- the services so far lead where those that are kept of a pod's namespace do
abbrev pub invariant-loop-service : goal.invariant-loop-service
invariant-loop-service l = (p : PodEnd) (number : ℕ) → list_any (target_leads p number) (targets_in l.by_namespace p.namespace) ≡ list_any (asked_leads p number) (take l.service-index l.service-items)
