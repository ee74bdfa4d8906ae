use Rattle.std.proofs.Common.{◌+◌, arith}
use Rattle.np_sets.proofs.Gaps.{holds-push_gap}
use Rattle.np_sets.proofs.Growing.{IsAscendingUpTo-push, IsAscendingUpTo-later}
use Rattle.np_sets.proofs.complement.push_gap.Goals as goal

pub returns-in_ok-push-clause-members : goal.returns-in_ok-push-clause-members
returns-in_ok-push-clause-members g c =
    λ n. rw c.in_ok-push.ensures.ok (holds-push_gap g.P.Point.number_of _ _ c.args.from c.args.to n c.if-from-to.true c.range_between.ensures.first c.range_between.ensures.last)

pub returns-in_ok-push-clause-ascending : goal.returns-in_ok-push-clause-ascending
returns-in_ok-push-clause-ascending g c =
    λ ascends. rw c.in_ok-push.ensures.ok (IsAscendingUpTo-push g.P.Point.number_of g.P.Point.LOW g.P.Point.HIGH _ _ c.range_between.result (rw c.range_between.ensures.first ascends) (omega arith)
    (omega arith) (omega arith))

pub returns-else-from-to-clause-ascending : goal.returns-else-from-to-clause-ascending
returns-else-from-to-clause-ascending g c =
    IsAscendingUpTo-later g.P.Point.number_of g.P.Point.LOW g.P.Point.HIGH c.args.from (c.args.to + 1) _ (omega arith)
