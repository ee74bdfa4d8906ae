use Rattle.std.proofs.Common.{rules, ◌≡◌, ◌+◌, ◌++◌, ◌∷◌, [], ◌∙◌, ap}
use Rattle.std.proofs.lemmas.List.{length-append}
use Rattle.std.proofs.lemmas.List.Elements.{All-append, All-cons, All-nil}
use Rattle.np_items.specs.Prelude.{IsWellItem}
use Rattle.np_items.proofs.ItemLemmas.{after-next}
use Rattle.np_items.proofs.items.each_item.Goals as goal

pub loop-place-preserved : goal.loop-place-preserved
loop-place-preserved c =
    let item = c.in_ok-item_of.field-0 in
    let so_far = c.loop-place.invariant in
    let grown : c.push.new.self ≡ c.loop-place.items ++ item ∷ [] = c.in_ok-push.ensures.ok in
    rw grown (
      so_far.0 ∙ after-next c.args.values.now c.loop-place.place _ c.loop-place.items item (search rules) (search rules) c.in_ok-item_of.ensures.reads,
      length-append c.loop-place.items (item ∷ []) ∙ ap (λ count. count + 1) so_far.1,
      All-append IsWellItem c.loop-place.items (item ∷ []) so_far.2 (All-cons IsWellItem item [] c.in_ok-item_of.ensures.well (All-nil IsWellItem)),
    )
