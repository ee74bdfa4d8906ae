use Rattle.std.proofs.Common.{take}
use Rattle.np_names.specs.Counts.{HoldsCounts}
use Rattle.np_names.proofs.numbered.counts_of.Given as goal

-- the texts so far are counted
abbrev pub invariant-loop-text : goal.invariant-loop-text
invariant-loop-text l = HoldsCounts (take l.text-index l.texts) l.counts.entries
