use Rattle.np_report.proofs.SpanLemmas.{none_held}
use Rattle.np_report.proofs.spans.no_points.Goals as goal

pub returns : goal.returns
returns g c = none_held g.P.Point.number_of _ _ _ c.in_ok-none.ensures.well c.in_ok-none.ensures.members
