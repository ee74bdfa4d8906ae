use Rattle.std.proofs.Common.{◌≡◌, ◌+◌, map, drop}
use Rattle.serde_json.specs.View.{view}
use Rattle.np_items.specs.Prelude.{all_values, values_from}
use Rattle.np_items.proofs.ReadingLemmas.{after}
use Rattle.np_items.proofs.inputs.all_values.Given as goal

-- the values so far, and then what the inputs left list, are what all list
abbrev pub invariant-loop-place : goal.invariant-loop-place
invariant-loop-place l =
    all_values (map (λ text. text.items) l.texts) ≡ after (map view l.values) (values_from (l.place + 1) (map (λ text. text.items) (drop l.place l.texts)))
