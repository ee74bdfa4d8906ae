use Rattle.std.proofs.Common.{◌∙◌}
use Rattle.np_pieces.proofs.Overlaps.{IsPast, IsOverlap-first}
use Rattle.np_pieces.proofs.overlap.take_overlap.Goals as goal

pub returns : goal.returns
returns g c =
    let hi = g.P.Point.number_of c.earlier-hi.result in
    let left_past : IsPast g.P.Point.number_of hi c.in-Some.first.now c.in-Some.left_rest.now c.after.result.now =
    record { ended = c.after.ensures.ended; going = λ before. c.after.ensures.going before ∙ c.in-Some.ensures.cases.0 } in
    let right_past : IsPast g.P.Point.number_of hi c.in-Some-split_first.second.now c.in-Some-split_first.right_rest.now c.after-2.result.now =
    record { ended = c.after-2.ensures.ended; going = λ before. c.after-2.ensures.going before ∙ c.in-Some-split_first.ensures.cases.0 } in
    IsOverlap-first g.P.Point.number_of g.S.Cells.IsWell _ _ c.in-Some.first.now c.in-Some-split_first.second.now _ _ c.later.result c.earlier-hi.result _ _ c.in-Some.ensures.cases.0
    c.in-Some-split_first.ensures.cases.0 c.later.ensures c.earlier-hi.ensures left_past right_past
