use Rattle.std.proofs.Common.{sym, ◌∙◌, rules}
use Rattle.std.proofs.Math.Bool.{or-false}
use Rattle.np_base.specs.Ranges.{is_within}
use Rattle.np_base.proofs.Ranges.{IsAscending-earlier}
use Rattle.np_base.proofs.Bools.{or-leftwards}
use Rattle.np_sets.proofs.Growing.{IsAscending-from_growing}
use Rattle.np_sets.proofs.Members.{holds-push}
use Rattle.np_sets.proofs.join.join_ranges.Goals as goal

pub loop-next-preserved : goal.loop-next-preserved
loop-next-preserved g c =
    let next = c.in-Some-take_earlier.next in
    let taken = c.in-Some-take_earlier.ensures in
    let kept = c.loop-next.invariant in
    let leads = taken.first _ _ kept.left_after kept.right_after in
    let grown = c.in_ok-growing.ensures.order kept.growing leads.filled leads.end in
    record {
      growing = grown.0;
      left_after = IsAscending-earlier g.P.Point.number_of _ _ g.P.Point.HIGH _ grown.1 leads.left_after;
      right_after = IsAscending-earlier g.P.Point.number_of _ _ g.P.Point.HIGH _ grown.1 leads.right_after;
      members = λ n. rw (c.in_ok-growing.ensures.members n, ← or-leftwards _ (is_within g.P.Point.number_of next.range n) _, ← taken.members n) (kept.members n);
    }

pub returns-clause-members : goal.returns-clause-members
returns-clause-members g c =
    let ended = c.in_default-take_earlier.ensures in
    λ n. rw (c.in_ok-push.ensures.ok, holds-push g.P.Point.number_of _ _ n) (sym (or-false _) ∙ rw (ended.0, ended.1) at (c.loop-next.invariant.members n))

pub returns-clause-ascending : goal.returns-clause-ascending
returns-clause-ascending g c =
    rw c.in_ok-push.ensures.ok (IsAscending-from_growing g.P.Point.number_of g.P.Point.LOW g.P.Point.HIGH _ _ c.loop-next.invariant.growing)

pub loop-next-init : goal.loop-next-init
loop-next-init g c =
    let leads = c.in-Some.ensures.first g.P.Point.LOW g.P.Point.HIGH c.requires.left c.requires.right in
    record {
      growing = record { follows = rw c.new-made.ensures.items leads.start; filled = leads.filled; end = leads.end };
      left_after = leads.left_after;
      right_after = leads.right_after;
      members = λ n. rw (c.new-made.ensures.items, ← c.in-Some.ensures.members n);
    }

pub grow-requires : goal.grow-requires
grow-requires g c =
    let kept = c.loop-next.invariant in
    (search rules, (c.in-Some-take_earlier.ensures.first _ _ kept.left_after kept.right_after).start)
