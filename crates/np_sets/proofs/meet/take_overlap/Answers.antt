use Rattle.std.proofs.Common.{arith}
use Rattle.np_sets.proofs.Overlaps.{IsOverlap-left, IsOverlap-right}
use Rattle.np_sets.proofs.meet.take_overlap.Goals as goal

pub returns-then-number : goal.returns-then-number
returns-then-number g c = IsOverlap-left g.P.Point.number_of g.P.Point.LOW g.P.Point.HIGH _ _ _ _ _ _ c.shared-range.result c.in-Some.ensures.cases.0 c.in-Some-split_first.ensures.cases.0
    c.requires.left c.requires.right c.shared-range.ensures (omega arith)

pub returns-else-number : goal.returns-else-number
returns-else-number g c = IsOverlap-right g.P.Point.number_of g.P.Point.LOW g.P.Point.HIGH _ _ _ _ _ _ c.shared-range.result c.in-Some.ensures.cases.0 c.in-Some-split_first.ensures.cases.0
    c.requires.left c.requires.right c.shared-range.ensures (omega arith)
