use Rattle.std.proofs.Common.{◌≡◌, map, take}
use Rattle.np_reach.proofs.spoken.own_of.Given as goal
use Rattle.np_rules.specs.Prelude.{pod_end}

-- what is said of the policies so far
abbrev pub invariant-loop-spoken : goal.invariant-loop-spoken
invariant-loop-spoken g l = l.made ≡ map (λ spoken. g.P.Speaker.may_pick spoken.policy.now (pod_end l.one)) (take l.spoken-index l.policies)
