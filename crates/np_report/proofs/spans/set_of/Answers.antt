use Rattle.np_report.proofs.SpanLemmas.{blocks_of_four, blocks_of_six}
use Rattle.np_report.proofs.spans.set_of.Goals as goal

pub returns-in_ok-no_points-in-Four : goal.returns-in_ok-no_points-in-Four
returns-in_ok-no_points-in-Four c = rw c.in-Four.is (blocks_of_four c.in-Four.range _ c.in_ok-points_of-in-Four.ensures c.in_ok-no_points-in-Four.ensures)

pub returns-in_ok-points_of-in-Six : goal.returns-in_ok-points_of-in-Six
returns-in_ok-points_of-in-Six c = rw c.in-Six.is (blocks_of_six c.in-Six.range _ c.in_ok-no_points-in-Six.ensures c.in_ok-points_of-in-Six.ensures)
