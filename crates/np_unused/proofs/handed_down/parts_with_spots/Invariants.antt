use Rattle.std.proofs.Common.{◌≡◌, ◌++◌}
use Rattle.np_unused.specs.Prelude.{hands_down}
use Rattle.np_unused.proofs.handed_down.parts_with_spots.Given as goal

-- the parts kept so far and those that are not looked at yet hand down what all of them do
abbrev pub invariant-loop-part : goal.invariant-loop-part
invariant-loop-part g l = (spot : g.row.S-Spot.Denot) → hands_down (λ set. g.S.Cells.has set spot) (l.kept ++ l.part-iterator.rest.items) ≡ hands_down (λ set. g.S.Cells.has set spot) l.fn.parts
