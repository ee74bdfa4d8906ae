use Rattle.np_unused.proofs.StepLemmas.{Below, KnowsOneIn}
use Rattle.np_unused.proofs.search.search_toward.Given as goal
use Rattle.np_unused.specs.Prelude.{Searched}

-- the families so far
abbrev pub invariant-loop-family : goal.invariant-loop-family
invariant-loop-family l = Searched l.search.side.now.lists l.search.side.now.direction (Below (KnowsOneIn l.search.side.now l.search.kinds.pods.now l.search.near l.kind l.fn.families) l.family-index) l.fn.used l.used
