use Rattle.std.proofs.Common.{◌≡◌, ℕ, take}
use Rattle.std.specs.List.{list_any}
use Rattle.np_routes.specs.Prelude.{at_pod, target_leads}
use Rattle.np_routes.proofs.targets.targets_at.Given as goal
use Rattle.np_rules.specs.Prelude.{pod_end}

-- the targets so far lead where the services so far do
abbrev pub invariant-loop-one : goal.invariant-loop-one
invariant-loop-one l = (number : ℕ) → at_pod l.made (pod_end l.fn.pod) number ≡ list_any (target_leads (pod_end l.fn.pod) number) (take l.one-index l.fn.services)
