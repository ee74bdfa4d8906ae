use Rattle.std.proofs.Common.{◌≡◌, ◌||◌, take}
use Rattle.std.specs.List.{list_any}
use Rattle.np_conns.specs.Prelude.{has_spot}
use Rattle.np_exposure.specs.Prelude.{IsWitness, PortSpot, Stranger}
use Rattle.np_rules.specs.Prelude.{kept_matches, pod, stranger_end}
use Rattle.np_exposure.proofs.open_rules.OpenRules.sort.Given as goal

-- the sets and the open rules permit together what the settled set and the rules so far do
abbrev pub invariant-loop-rule : goal.invariant-loop-rule
invariant-loop-rule l = (s : Stranger) → IsWitness l.state s → (spot : PortSpot) →
    (list_any (λ set. has_spot set.now spot) l.sets.items || list_any (λ rule. kept_matches l.namespace (pod (stranger_end s)) spot rule.kept.now) l.opens.items)
    ≡ (has_spot l.self.settled spot || list_any (λ rule. kept_matches l.namespace (pod (stranger_end s)) spot rule.kept.now) (take l.rule-index l.rule-items))
