use Rattle.std.proofs.Common.{◌≡◌, take}
use Rattle.std.specs.List.{list_any}
use Rattle.np_conns.specs.Prelude.{has_spot}
use Rattle.np_conns.specs.declared.port_spot.PortSpot.{PortSpot}
use Rattle.np_rules.specs.Prelude.{kept_matches, near_pod, pod, stranger_end}
use Rattle.np_test_fold.proofs.strangers.permitted.Given as goal

-- the sets so far are those of the matching rules so far
abbrev pub invariant-loop-rule : goal.invariant-loop-rule
invariant-loop-rule l = (spot : PortSpot) →
    list_any (λ set. has_spot set.now spot) l.sets.items
    ≡ list_any (kept_matches (near_pod l.rules).namespace (pod (stranger_end l.stranger)) spot) (take l.rule-index l.rule-items)
