use Rattle.np_unused.proofs.StepLemmas.{Below, KnowsFamily}
use Rattle.np_unused.proofs.search.search_families.Given as goal
use Rattle.np_unused.specs.Prelude.{Searched}

-- the families so far
abbrev pub invariant-loop-family : goal.invariant-loop-family
invariant-loop-family l = Searched l.search.side.now.lists l.search.side.now.direction (Below (KnowsFamily l.search.side.now l.search.kinds.pods.now l.search.near l.fn.families) l.family-index) l.fn.used l.used
