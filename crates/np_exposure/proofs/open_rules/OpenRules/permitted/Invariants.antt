use Rattle.std.proofs.Common.{◌≡◌, ◌||◌, take}
use Rattle.std.specs.List.{list_any}
use Rattle.np_conns.specs.Prelude.{has_spot}
use Rattle.np_exposure.specs.Prelude.{PortSpot}
use Rattle.np_rules.specs.Prelude.{kept_matches, pod, stranger_end}
use Rattle.np_exposure.proofs.open_rules.OpenRules.permitted.Given as goal

-- the sets are the settled one and those of the matching rules so far
abbrev pub invariant-loop-rule : goal.invariant-loop-rule
invariant-loop-rule l = (spot : PortSpot) →
    list_any (λ set. has_spot set.now spot) l.sets.items
    ≡ (has_spot l.self.settled spot || list_any (λ rule. kept_matches l.namespace (pod (stranger_end l.stranger)) spot rule.kept.now) (take l.rule-index l.rule-items))
