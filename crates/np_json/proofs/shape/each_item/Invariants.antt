use Rattle.std.proofs.Common.{◌≡◌, drop}
use Rattle.serde_json.specs.View.{items_view}
use Rattle.np_json.specs.Prelude.{each_item}
use Rattle.np_json.proofs.ShapeLemmas.{after}
use Rattle.np_json.proofs.shape.each_item.Given as goal

-- the outputs so far, and then what is read of the items left, are what is read of all
abbrev pub invariant-loop-place : goal.invariant-loop-place
invariant-loop-place g l =
    let reads = g.T.Shape.reads l.shape in
    each_item reads 0 (items_view l.items) ≡ after l.outputs (each_item reads l.place (items_view (drop l.place l.items)))
