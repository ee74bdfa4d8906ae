use Rattle.std.proofs.Common.{arith}
use Rattle.np_sets.proofs.Steps.{BeginsFrom-none, BeginsFrom-first, IsEarlier-left, IsEarlier-right}
use Rattle.np_sets.proofs.join.take_earlier.Goals as goal

pub returns-in_default : goal.returns-in_default
returns-in_default g c = IsEarlier-right g.P.Point.number_of _ _ _ _ c.in_ok-first_right.ensures.cases.0 (BeginsFrom-none g.P.Point.number_of _ _ c.in_default.ensures.cases)

pub returns-in_default-split_first : goal.returns-in_default-split_first
returns-in_default-split_first g c = IsEarlier-left g.P.Point.number_of _ _ _ _ c.in-Some.ensures.cases.0 (BeginsFrom-none g.P.Point.number_of _ _ c.in_default-split_first.ensures.cases)

pub returns-then-number : goal.returns-then-number
returns-then-number g c = IsEarlier-left g.P.Point.number_of _ _ _ _ c.in-Some.ensures.cases.0 (BeginsFrom-first g.P.Point.number_of _ _ _ _ c.in-Some-split_first.ensures.cases.0 (omega arith))

pub returns-else-number : goal.returns-else-number
returns-else-number g c = IsEarlier-right g.P.Point.number_of _ _ _ _ c.in-Some-split_first.ensures.cases.0 (BeginsFrom-first g.P.Point.number_of _ _ _ _ c.in-Some.ensures.cases.0 (omega arith))
