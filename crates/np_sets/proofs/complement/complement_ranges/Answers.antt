use Rattle.std.proofs.Common.{◌+◌, arith, ◌∙◌}
use Rattle.np_base.proofs.Ranges.{IsAscending-earlier}
use Rattle.np_base.proofs.Lists.{drop-item, drop-ended}
use Rattle.np_sets.proofs.Gaps.{misses-rest, misses-end, holds-last_gap}
use Rattle.np_sets.proofs.Growing.{IsAscendingUpTo-push, IsAscendingUpTo-later, IsAscending-from_up_to}
use Rattle.np_sets.proofs.Members.{or_moved, or_ended}
use Rattle.np_sets.proofs.complement.complement_ranges.Goals as goal

pub returns-then-last-HIGH-clause-members : goal.returns-then-last-HIGH-clause-members
returns-then-last-HIGH-clause-members g c =
    let taken = drop-item c.args.ranges.now c.loop-range.range-index c.range-item.result (omega arith) c.range-item.is in
    λ n. or_ended _ _ _ _ _ (c.in_ok-push_gap.ensures.members n) (misses-end g.P.Point.number_of _ _ _ _ _ _ _ n taken c.number.ensures.value c.number-last.ensures.value c.loop-range.invariant.rest
    (omega arith)) (c.loop-range.invariant.members n)

pub returns-then-last-HIGH-clause-ascending : goal.returns-then-last-HIGH-clause-ascending
returns-then-last-HIGH-clause-ascending g c =
    IsAscending-from_up_to g.P.Point.number_of g.P.Point.LOW g.P.Point.HIGH (c.number.result + 1) _ (c.in_ok-push_gap.ensures.ascending c.loop-range.invariant.gaps)

pub loop-range-preserved : goal.loop-range-preserved
loop-range-preserved g c =
    let taken = drop-item c.args.ranges.now c.loop-range.range-index c.range-item.result (omega arith) c.range-item.is in
    let ascends = rw taken at c.loop-range.invariant.rest in
    record {
      low = omega arith;
      high = omega arith;
      rest = IsAscending-earlier g.P.Point.number_of _ (c.number-last.result + 1) g.P.Point.HIGH _ (omega arith) ascends.3;
      gaps = IsAscendingUpTo-later g.P.Point.number_of g.P.Point.LOW g.P.Point.HIGH (c.number.result + 1) (c.number-last.result + 1) _ (omega (arith, ascends.1))
          (c.in_ok-push_gap.ensures.ascending c.loop-range.invariant.gaps);
      members = λ n. or_moved _ _ _ _ _ _ (c.in_ok-push_gap.ensures.members n)
          (misses-rest g.P.Point.number_of _ _ _ _ _ _ _ n taken c.number.ensures.value c.number-last.ensures.value c.loop-range.invariant.rest (omega arith)) (c.loop-range.invariant.members n);
    }

pub returns-clause-members : goal.returns-clause-members
returns-clause-members g c =
    let ended = drop-ended c.args.ranges.now c.loop-range.range-index (omega arith) in
    λ n. rw c.in_ok-push.ensures.ok (holds-last_gap g.P.Point.number_of _ _ c.loop-range.from g.P.Point.HIGH n c.range_between.ensures.first (omega arith) ∙ rw ended at
    (c.loop-range.invariant.members n))

pub returns-clause-ascending : goal.returns-clause-ascending
returns-clause-ascending g c =
    rw c.in_ok-push.ensures.ok (IsAscending-from_up_to g.P.Point.number_of g.P.Point.LOW g.P.Point.HIGH (g.P.Point.HIGH + 2) _
    (IsAscendingUpTo-push g.P.Point.number_of g.P.Point.LOW g.P.Point.HIGH _ _ c.range_between.result (rw c.range_between.ensures.first c.loop-range.invariant.gaps) (omega arith) (omega arith)
    (omega arith)))
