use Rattle.std.proofs.Common.{length, arith, ap, ◌∙◌}
use Rattle.np_flatten.proofs.ReceiverFacts.{groups-le}
use Rattle.np_flatten.proofs.flat.Flat.count.Goals as goal

pub overflow_cast-result : goal.overflow_cast-result
overflow_cast-result c =
    let count = ap length (c.items.ensures ∙ c.self.invariant.0) in
    omega (arith, count, groups-le c.self.inside.passing, c.self.invariant.2)
