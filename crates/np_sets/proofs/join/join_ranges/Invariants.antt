use Rattle.std.proofs.Common.{◌≡◌, ℕ, ◌+◌, ◌||◌, length}
use Rattle.np_base.specs.Ranges.{is_within, holds, IsAscending}
use Rattle.np_sets.specs.Growing.{IsGrowing}
use Rattle.np_sets.proofs.join.join_ranges.Given as goal

-- The growing range follows what is made, and no range left begins before it. Together they have what both lists have.
abbrev pub invariant-loop-next : goal.invariant-loop-next
invariant-loop-next g l = record {
  growing : IsGrowing g.P.Point.number_of g.P.Point.LOW g.P.Point.HIGH l.made.items l.growing;
  left_after : IsAscending g.P.Point.number_of (g.P.Point.number_of l.growing.lo) g.P.Point.HIGH l.left;
  right_after : IsAscending g.P.Point.number_of (g.P.Point.number_of l.growing.lo) g.P.Point.HIGH l.right;
  members : (n : ℕ) →
      ((holds g.P.Point.number_of l.made.items n || is_within g.P.Point.number_of l.growing n) || (holds g.P.Point.number_of l.left n || holds g.P.Point.number_of l.right n)) ≡
      (holds g.P.Point.number_of l.fn.left n || holds g.P.Point.number_of l.fn.right n);
}

abbrev pub decreases-loop-next : goal.decreases-loop-next
decreases-loop-next g l = length l.left + length l.right
