use Rattle.np_pieces.proofs.Growing.{IsWith-pushed, IsWith-widened, differs_by_spot}
use Rattle.np_pieces.proofs.append.grown.Goals as goal

pub returns-then-same : goal.returns-then-same
returns-then-same g c = IsWith-widened g.P.Point.number_of g.S.Cells.IsWell _ _ c.in-Some.last c.args.next c.in-Some.ensures.items c.if-same.ensures.answer

pub returns : goal.returns
returns g c =
    let told = c.if-same.ensures.answer in
    let differs = differs_by_spot g.S.Cells.has _ _ told.0 told.1 in
    rw (c.in_ok-push.ensures.items, ← c.in-Some.ensures.items) (IsWith-pushed g.P.Point.number_of g.S.Cells.IsWell _ _ c.in-Some.last c.args.next c.in-Some.ensures.items differs)
