use Rattle.std.proofs.Common.{take, map}
use Rattle.np_fold.specs.Prelude.{HaveSame, block_at}
use Rattle.np_fold.proofs.distinct_blocks.starts_of.Given as goal

-- the starts so far are those of the blocks so far
abbrev pub invariant-loop-cidr : goal.invariant-loop-cidr
invariant-loop-cidr l = HaveSame (map block_at l.starts.keys) (take l.cidr-index l.cidrs)
