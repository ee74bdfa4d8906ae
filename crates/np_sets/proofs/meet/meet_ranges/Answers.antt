use Rattle.np_base.proofs.Bools.{or-leftwards}
use Rattle.np_sets.proofs.Overlaps.{past-init, IsMadeTo-push}
use Rattle.np_sets.proofs.meet.meet_ranges.Goals as goal

pub loop-step-init : goal.loop-step-init
loop-step-init g c = record {
  left = c.requires.left;
  right = c.requires.right;
  made = rw c.new-made.ensures.items tt;
  past = past-init g.P.Point.number_of g.P.Point.LOW g.P.Point.HIGH _ _ _ c.new-made.ensures.items c.requires.left;
  members = λ n. rw c.new-made.ensures.items;
}

pub loop-step-preserved : goal.loop-step-preserved
loop-step-preserved g c =
    let kept = c.loop-step.invariant in
    let next = c.in-Some.step in
    let step = c.in-Some.ensures in
    let made = IsMadeTo-push g.P.Point.number_of g.P.Point.LOW g.P.Point.HIGH c.loop-step.left.now c.loop-step.right.now next.range next.left.now next.right.now c.loop-step.made.items
    c.push_some.new.ranges.items step kept.made kept.past c.in_ok-push_some.ensures in
    record {
      left = step.left_ascends;
      right = step.right_ascends;
      made = made.ascends;
      past = made.past;
      members = λ n. rw (made.members n, ← or-leftwards, ← step.members n) (kept.members n);
    }
