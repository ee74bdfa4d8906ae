use Rattle.std.proofs.Common.{◌≡◌, map, take}
use Rattle.np_owners.proofs.ChainLemmas.{owner_at}
use Rattle.np_owners.proofs.tops.top_owners.Given as goal

-- the owners at the tops so far
abbrev pub invariant-loop-top : goal.invariant-loop-top
invariant-loop-top l = l.made.items ≡ map (owner_at l.items) (take l.top-index l.top-items)
