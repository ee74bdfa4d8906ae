use Rattle.std.proofs.Common.{◌≡◌, ◌++◌, drop, flat_map, map}
use Rattle.np_fold.specs.Prelude.{cidrs_of_estate, cidrs_of_peer}
use Rattle.np_fold.proofs.blocks.listed_cidrs.Given as goal

-- with the blocks of those that are left they are all
abbrev pub invariant-loop-peer : goal.invariant-loop-peer
invariant-loop-peer l = l.cidrs ++ flat_map cidrs_of_peer (map (λ peer. peer.now) (drop l.peer-index l.peer-items)) ≡ cidrs_of_estate l.estate
