use Rattle.std.proofs.Common.{◌≡◌, ◌++◌, map, take}
use Rattle.np_reach.proofs.reach.SpokenSides.push_rows.Given as goal
use Rattle.np_reach.specs.Prelude.{may_reach}
use Rattle.np_rules.specs.Prelude.{pod, pod_end}

-- behind what was there, the rows of the pods so far
abbrev pub invariant-loop-near : goal.invariant-loop-near
invariant-loop-near l = l.rows ≡ l.initial.rows ++ map (λ near. map (λ far. may_reach l.self.estate.now l.self.direction (pod_end near.now) (pod (pod_end far.now))) l.self.pods.now)
    (take l.near-index l.near-items)
