use Rattle.np_unused.proofs.kind_pods.note_others.Given as goal
use Rattle.np_unused.specs.Prelude.{AreKindPodsOf}

-- the pods so far
abbrev pub invariant-loop-pod : goal.invariant-loop-pod
invariant-loop-pod l = AreKindPodsOf l.folded l.pod l.kinds
