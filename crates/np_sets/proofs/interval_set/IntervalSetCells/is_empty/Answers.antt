use Rattle.np_sets.proofs.SameSets.{empty_or_filled}
use Rattle.np_sets.proofs.interval_set.IntervalSetCells.is_empty.Goals as goal

pub returns-clause-answer : goal.returns-clause-answer
returns-clause-answer g c =
    empty_or_filled g.P.Point.number_of g.P.Point.LOW g.P.Point.HIGH c.args.self.now c.ranges-2.ensures.ascending c.is_empty.result (rw c.ranges-2.ensures.value at c.is_empty.ensures)
