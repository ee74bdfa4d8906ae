use Rattle.std.proofs.Common.{◌≡◌, map, take}
use Rattle.np_reach.proofs.spoken.marks_of.Given as goal
use Rattle.np_rules.specs.Prelude.{pod, pod_end}

-- what is said of the pods so far
abbrev pub invariant-loop-far : goal.invariant-loop-far
invariant-loop-far g l = l.made ≡ map (λ far. g.P.Speaker.speaks l.direction (pod (pod_end far.now)) l.policy) (take l.far-index l.pods)
