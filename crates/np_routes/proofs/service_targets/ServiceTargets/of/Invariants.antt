use Rattle.std.proofs.Common.{◌≡◌, ℕ, take}
use Rattle.std.specs.List.{list_any}
use Rattle.np_routes.specs.Prelude.{asked_port_leads, at_pod}
use Rattle.np_routes.proofs.service_targets.ServiceTargets.of.Given as goal
use Rattle.np_rules.specs.Prelude.{PodEnd}

-- the targets so far lead where the ports so far do
abbrev pub invariant-loop-port : goal.invariant-loop-port
invariant-loop-port l = (p : PodEnd) (number : ℕ) → at_pod l.targets p number ≡ list_any (asked_port_leads l.fn.asked p number) (take l.port-index l.port-items)
