use Rattle.std.proofs.Common.{◌≡◌, drop}
use Rattle.np_base.specs.Ranges.{holds}
use Rattle.np_sets.proofs.member.has_number.Given as goal

-- the ranges left hold the number where all of them do
abbrev pub invariant-loop-range : goal.invariant-loop-range
invariant-loop-range g l =
    holds g.P.Point.number_of (drop l.range-index l.ranges) l.number ≡ holds g.P.Point.number_of l.ranges l.number
