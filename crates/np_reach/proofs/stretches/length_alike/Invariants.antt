use Rattle.std.proofs.Common.{◌≡◌, take}
use Rattle.std.specs.Prelude.{All}
use Rattle.np_reach.proofs.stretches.length_alike.Given as goal
use Rattle.np_reach.specs.Prelude.{AreOfOneNamespace}
use Rattle.np_rules.specs.Prelude.{pod_end}

-- the pods so far are of the namespace
abbrev pub invariant-loop-other : goal.invariant-loop-other
invariant-loop-other l = record {
  count : l.count ≡ l.other-index;
  alike : All (λ other. AreOfOneNamespace (pod_end l.one) (pod_end other.now)) (take l.other-index l.pods);
}
