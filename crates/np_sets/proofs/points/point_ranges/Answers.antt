use Rattle.std.proofs.Common.{◌∙◌, ◌==◌, sym, rules, arith, refl}
use Rattle.std.proofs.Math.Bool.{or-false}
use Rattle.np_sets.proofs.Growing.{IsAscending-from_growing}
use Rattle.np_sets.proofs.InOrder.{AscendFrom-rest, AscendFrom-lower, is_within-alone, members-more, none-left}
use Rattle.np_sets.proofs.Members.{holds-push}
use Rattle.np_sets.proofs.points.point_ranges.Goals as goal

pub loop-next-init : goal.loop-next-init
loop-next-init g c =
    let ranged = c.range_of-growing.ensures in
    record {
      growing = record { follows = rw (c.new-made.ensures.items, ranged.range) ranged.low; filled = rw ranged.range (omega arith); end = rw ranged.range ranged.high };
      left_after = rw ranged.range (AscendFrom-rest g.P.Point.number_of _ _ (rw c.in-Some.ensures.cases.0 at c.requires));
      members = λ n. rw (c.new-made.ensures.items, ranged.range, is_within-alone g.P.Point.number_of c.in-Some.first.now n, c.in-Some.ensures.cases.0) refl;
    }

pub loop-next-preserved : goal.loop-next-preserved
loop-next-preserved g c =
    let ranged = c.range_of.ensures in
    let kept = c.loop-next.invariant in
    let after = rw c.in-Some-split_first.ensures.cases.0 at kept.left_after in
    let grown = c.in_ok-growing.ensures.order kept.growing (rw ranged.range (omega arith)) (rw ranged.range ranged.high) in
    record {
      growing = grown.0;
      left_after = AscendFrom-lower g.P.Point.number_of _ _ _ (rw ranged.range at grown.1) after.1;
      members = λ n. members-more g.P.Point.number_of _ _ _ _ c.in-Some-split_first.next.now _ n (rw ranged.range at (c.in_ok-growing.ensures.members n)) ∙ rw c.in-Some-split_first.ensures.cases.0 at
          (kept.members n);
    }

pub grow-requires : goal.grow-requires
grow-requires g c = (search rules, rw c.range_of.ensures.range ((rw c.in-Some-split_first.ensures.cases.0 at c.loop-next.invariant.left_after).0))

pub returns-clause-members : goal.returns-clause-members
returns-clause-members g c =
    λ n. rw (c.in_ok-push.ensures.ok, holds-push g.P.Point.number_of _ _ n)
    (sym (or-false _) ∙ (rw (none-left (λ point. g.P.Point.number_of point == n) _ c.in_default-split_first.ensures.cases) at (c.loop-next.invariant.members n)))

pub returns-clause-ascending : goal.returns-clause-ascending
returns-clause-ascending g c =
    rw c.in_ok-push.ensures.ok (IsAscending-from_growing g.P.Point.number_of g.P.Point.LOW g.P.Point.HIGH _ _ c.loop-next.invariant.growing)
