use Rattle.np_unused.proofs.StepLemmas.{Below}
use Rattle.np_unused.proofs.search.search_pods.Given as goal
use Rattle.np_unused.specs.Prelude.{KnowsFar, Searched}

-- the kinds so far
abbrev pub invariant-loop-kind : goal.invariant-loop-kind
invariant-loop-kind l = Searched l.search.side.now.lists l.search.side.now.direction (Below (KnowsFar l.search.side.now l.search.kinds.pods.now l.search.near l.family) l.kind) l.fn.used l.used
