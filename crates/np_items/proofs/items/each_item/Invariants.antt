use Rattle.std.proofs.Common.{◌≡◌, ◌+◌, map, drop, length, All}
use Rattle.serde_json.specs.View.{view}
use Rattle.np_items.specs.Prelude.{IsWellItem, items_from}
use Rattle.np_items.proofs.ReadingLemmas.{after}
use Rattle.np_items.proofs.items.each_item.Given as goal

-- the items so far, which are well formed and as many as the values so far, and then what is read of the values
-- left, are what is read of all
abbrev pub invariant-loop-place : goal.invariant-loop-place
invariant-loop-place l =
    (items_from 1 (map view l.values) ≡ after l.items (items_from (l.place + 1) (map view (drop l.place l.values))))
    × (length l.items ≡ l.place)
    × All IsWellItem l.items
