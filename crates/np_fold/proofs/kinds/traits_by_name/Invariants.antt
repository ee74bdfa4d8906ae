use Rattle.std.proofs.Common.{◌≡◌, Some, map, take}
use Rattle.np_fold.specs.steps.Folded as folded
use Rattle.np_fold.proofs.kinds.traits_by_name.Given as goal

-- what was made so far is for the things so far
abbrev pub invariant-loop-one : goal.invariant-loop-one
invariant-loop-one l = map Some l.made ≡ map (folded.kind_at l.keys l.cidrs l.pods l.firsts) (take l.one-index l.named)
