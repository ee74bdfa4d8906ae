use Rattle.std.proofs.lemmas.Result.{IfOk-weaker}
use Rattle.np_sets.proofs.Spaces.{holds-less}
use Rattle.np_sets.proofs.minus.subtract_ranges.Goals as goal

pub returns-clause-members : goal.returns-clause-members
returns-clause-members g c =
    let shares = rw c.as_slice.ensures at c.meet_ranges.ensures.members in
    IfOk-weaker c.meet_ranges.result _ _ (λ made both n. holds-less g.P.Point.number_of g.P.Point.LOW g.P.Point.HIGH _ _ c.in_ok-others.others.items _ n c.requires.left
    (c.in_ok-others.ensures.members n) (both n)) shares
