use Rattle.std.proofs.Common.{◌≡◌, map}
use Rattle.np_fold.specs.Prelude.{block_at}
use Rattle.np_fold.proofs.distinct_blocks.blocks_of.Given as goal

-- the blocks so far are those of the starts so far
abbrev pub invariant-loop-start : goal.invariant-loop-start
invariant-loop-start l = l.blocks ≡ map block_at l.yielded
