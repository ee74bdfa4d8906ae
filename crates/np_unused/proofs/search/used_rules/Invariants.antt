use Rattle.np_unused.proofs.StepLemmas.{Below}
use Rattle.np_unused.proofs.search.used_rules.Given as goal
use Rattle.np_unused.specs.Prelude.{KnowsKind, Searched}

-- the kinds so far
abbrev pub invariant-loop-near : goal.invariant-loop-near
invariant-loop-near l = Searched l.fn.folded l.fn.direction (Below (KnowsKind l.fn.folded l.fn.direction l.kinds.pods.now) l.near) l.initial.used l.used
