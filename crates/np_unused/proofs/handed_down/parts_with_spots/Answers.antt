use Rattle.std.proofs.Common.{◌≡◌, List, [], ◌++◌, sym, ap, ◌∙◌, arith}
use Rattle.std.proofs.lemmas.Grind.{common_steps}
use Rattle.std.proofs.lemmas.List.{append-nil}
use Rattle.np_unused.proofs.FirstLemmas.{hands_down-without}
use Rattle.np_unused.specs.Prelude.{AdminPart, hands_down}
use Rattle.np_unused.proofs.handed_down.parts_with_spots.Goals as goal

pub loop-part-preserved : goal.loop-part-preserved
loop-part-preserved g c = λ spot.
    let at = λ (set : g.row.S.Denot). g.S.Cells.has set spot in
    sym (hands_down-without at c.loop-part.kept c.in-Some.part c.next.new.self.rest.items (c.if-not-is_empty.ensures.answer spot))
    ∙ ap (λ (rest : List (AdminPart g.row.S.Denot)). hands_down at (c.loop-part.kept ++ rest)) (sym c.in-Some.ensures.steps.0)
    ∙ c.loop-part.invariant spot

pub returns : goal.returns
returns g c = λ spot.
    let at = λ (set : g.row.S.Denot). g.S.Cells.has set spot in
    let none : c.loop-part.part-iterator.rest.items ≡ [] = grind (arith, common_steps) in
    ap (hands_down at) (sym (append-nil c.loop-part.kept))
    ∙ ap (λ (rest : List (AdminPart g.row.S.Denot)). hands_down at (c.loop-part.kept ++ rest)) (sym none)
    ∙ c.loop-part.invariant spot
