use Rattle.std.proofs.Common.{◌≡◌, flat_map, map, take}
use Rattle.std.specs.Prelude.{All}
use Rattle.np_reach.proofs.spoken.spoken_by.Given as goal
use Rattle.np_reach.specs.Prelude.{IsSpoken}
use Rattle.np_rules.specs.Prelude.{pod, pod_end}

-- the policies so far, each with what it says of each of the pods
abbrev pub invariant-loop-policy : goal.invariant-loop-policy
invariant-loop-policy g l = record {
  policies : map (λ one. one.policy.now) l.made.items ≡ take l.policy-index l.policies;
  far : All (λ one. IsSpoken (λ far. g.P.Speaker.speaks l.direction (pod (pod_end far.now)) one.policy.now) (flat_map (λ stretch. stretch.pods.now) l.stretches) one.far.items) l.made.items;
}
