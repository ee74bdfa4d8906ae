use Rattle.std.proofs.Common.{◌∙◌}
use Rattle.std.proofs.lemmas.Result.{IfOk-weaker}
use Rattle.np_unused.proofs.FirstLemmas.{hands_down-between}
use Rattle.np_unused.proofs.handed_down.handed_down.Goals as goal

pub returns-clause-members : goal.returns-clause-members
returns-clause-members g c =
    IfOk-weaker c.minus.result _ _
    (λ made members spot inside. hands_down-between (λ set. g.S.Cells.has set spot) c.in_ok-parts_with_spots.field-0 (g.S.Cells.has c.in_ok-not_denied.not_denied spot)
    (g.S.Cells.has c.in_ok-allowed.allowed spot) (g.S.Cells.has made spot) (rw c.new-2.ensures at (c.in_ok-not_denied.ensures.members spot inside))
    (rw c.new.ensures at (c.in_ok-allowed.ensures.members spot inside)) (members spot) ∙ c.in_ok-parts_with_spots.ensures spot)
    c.minus.ensures.members
