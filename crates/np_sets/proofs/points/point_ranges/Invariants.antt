use Rattle.std.proofs.Common.{◌≡◌, ℕ, ◌==◌, ◌||◌, length}
use Rattle.std.specs.List.{list_any}
use Rattle.np_base.specs.Ranges.{is_within, holds}
use Rattle.np_sets.specs.Growing.{IsGrowing}
use Rattle.np_sets.proofs.InOrder.{AscendFrom}
use Rattle.np_sets.proofs.points.point_ranges.Given as goal

-- The growing range follows what is made, and no point left stands before it. Together they have what all points have.
abbrev pub invariant-loop-next : goal.invariant-loop-next
invariant-loop-next g l = record {
  growing : IsGrowing g.P.Point.number_of g.P.Point.LOW g.P.Point.HIGH l.made.items l.growing;
  left_after : AscendFrom g.P.Point.number_of (g.P.Point.number_of l.growing.lo) l.left;
  members : (n : ℕ) →
      ((holds g.P.Point.number_of l.made.items n || is_within g.P.Point.number_of l.growing n) || list_any (λ point. g.P.Point.number_of point == n) l.left) ≡ list_any
      (λ point. g.P.Point.number_of point == n) l.fn.points;
}

abbrev pub decreases-loop-next : goal.decreases-loop-next
decreases-loop-next g l = length l.left
