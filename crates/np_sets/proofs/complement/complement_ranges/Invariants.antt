use Rattle.std.proofs.Common.{◌≡◌, ℕ, ◌≤◌, ◌||◌, drop}
use Rattle.np_base.specs.Ranges.{holds, IsAscending}
use Rattle.np_sets.specs.Growing.{IsAscendingUpTo}
use Rattle.np_sets.proofs.Gaps.{misses}
use Rattle.np_sets.proofs.complement.complement_ranges.Given as goal

-- The gaps so far, and what the ranges left miss from `from` on, are what all the ranges miss.
abbrev pub invariant-loop-range : goal.invariant-loop-range
invariant-loop-range g l = record {
  low : g.P.Point.LOW ≤ l.from;
  high : l.from ≤ g.P.Point.HIGH;
  rest : IsAscending g.P.Point.number_of l.from g.P.Point.HIGH (drop l.range-index l.ranges);
  gaps : IsAscendingUpTo g.P.Point.number_of g.P.Point.LOW g.P.Point.HIGH l.gaps.items l.from;
  members : (n : ℕ) →
      (holds g.P.Point.number_of l.gaps.items n || misses g.P.Point.number_of l.from g.P.Point.HIGH (drop l.range-index l.ranges) n)
      ≡ misses g.P.Point.number_of g.P.Point.LOW g.P.Point.HIGH l.ranges n;
}
