use Rattle.std.proofs.Common.{flat_map, take}
use Rattle.np_reach.proofs.spoken.far_ends.Given as goal
use Rattle.np_reach.specs.Prelude.{IsSpoken}
use Rattle.np_rules.specs.Prelude.{pod, pod_end}

-- what is said of the pods of the stretches so far
abbrev pub invariant-loop-stretch : goal.invariant-loop-stretch
invariant-loop-stretch g l = IsSpoken (λ far. g.P.Speaker.speaks l.direction (pod (pod_end far.now)) l.policy) (flat_map (λ stretch. stretch.pods.now) (take l.stretch-index l.stretches)) l.made.items
