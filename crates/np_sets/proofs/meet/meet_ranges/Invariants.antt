use Rattle.std.proofs.Common.{◌≡◌, ℕ, ◌+◌, ◌||◌, ◌&&◌, true, length}
use Rattle.np_base.specs.Ranges.{holds, IsAscending}
use Rattle.np_sets.specs.Growing.{IsAscendingUpTo}
use Rattle.np_sets.proofs.meet.meet_ranges.Given as goal

-- What is made, and what the lists left share past it, is what the lists share.
abbrev pub invariant-loop-step : goal.invariant-loop-step
invariant-loop-step g l = record {
  left : IsAscending g.P.Point.number_of g.P.Point.LOW g.P.Point.HIGH l.left;
  right : IsAscending g.P.Point.number_of g.P.Point.LOW g.P.Point.HIGH l.right;
  made : IsAscending g.P.Point.number_of g.P.Point.LOW g.P.Point.HIGH l.made.items;
  past : (n : ℕ) → (holds g.P.Point.number_of l.left n && holds g.P.Point.number_of l.right n) ≡ true → IsAscendingUpTo g.P.Point.number_of g.P.Point.LOW g.P.Point.HIGH l.made.items n;
  members : (n : ℕ) →
      (holds g.P.Point.number_of l.made.items n || (holds g.P.Point.number_of l.left n && holds g.P.Point.number_of l.right n)) ≡
      (holds g.P.Point.number_of l.fn.left n && holds g.P.Point.number_of l.fn.right n);
}

abbrev pub decreases-loop-step : goal.decreases-loop-step
decreases-loop-step g l = length l.left + length l.right
