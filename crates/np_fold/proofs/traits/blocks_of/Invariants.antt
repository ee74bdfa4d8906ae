use Rattle.std.proofs.Common.{◌≡◌, take}
use Rattle.np_fold.specs.Prelude.{blocks_of}
use Rattle.np_fold.proofs.traits.blocks_of.Given as goal

-- the places so far are those among the blocks so far
abbrev pub invariant-loop-place : goal.invariant-loop-place
invariant-loop-place l = l.blocks ≡ blocks_of (take l.place l.cidrs) l.addresses
