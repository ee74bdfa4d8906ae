use Rattle.std.proofs.Common.{◌≡◌, flat_map, map, take}
use Rattle.np_reach.specs.Prelude.{may_reach}
use Rattle.np_reach.proofs.reach.Reach.of.Given as goal
use Rattle.np_rules.specs.Prelude.{pod, pod_end}

-- the rows of the pods of the stretches so far
abbrev pub invariant-loop-stretch : goal.invariant-loop-stretch
invariant-loop-stretch l = l.rows ≡ map (λ near. map (λ far. may_reach l.fn.estate l.fn.direction (pod_end near.now) (pod (pod_end far.now))) l.fn.pods)
    (flat_map (λ stretch. stretch.pods.now) (take l.stretch-index l.stretch-items))
