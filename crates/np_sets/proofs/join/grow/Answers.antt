use Rattle.std.proofs.Common.{arith}
use Rattle.np_sets.proofs.Growing.{GrowsTo-push}
use Rattle.np_sets.proofs.join.grow.Goals as goal

pub returns : goal.returns
returns g c = GrowsTo-push g.P.Point.number_of g.P.Point.LOW g.P.Point.HIGH _ c.args.growing c.args.next _ c.in_ok-push.ensures.ok (grind (arith, c.if-is_touching.false, c.is_touching.ensures))
