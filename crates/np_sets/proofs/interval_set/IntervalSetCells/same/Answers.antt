use Rattle.np_sets.proofs.SameSets.{same_or_apart}
use Rattle.np_sets.proofs.interval_set.IntervalSetCells.same.Goals as goal

pub returns-clause-answer : goal.returns-clause-answer
returns-clause-answer g c =
    same_or_apart g.P.Point.number_of g.P.Point.point_of g.P.Point.LOW g.P.Point.HIGH g.met.P.Point.number_of_point g.met.P.Point.point_of_number c.args.self.now c.args.other.now
    c.ranges-2.ensures.ascending c.ranges-3.ensures.ascending c.same_ranges.result (rw (c.ranges-2.ensures.value, c.ranges-3.ensures.value) at c.same_ranges.ensures)
