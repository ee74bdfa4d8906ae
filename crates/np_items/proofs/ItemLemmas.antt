-- Items that are read one after another. For `each_item`.
use Rattle.std.proofs.Common.{◌≡◌, ℕ, ◌+◌, ◌<◌, List, [], ◌∷◌, ◌++◌, length, get_or, drop, map, Ok, Err, refl, sym, ap, ◌∙◌, append_assoc}
use Rattle.std.proofs.lemmas.List.{drop_more}
use Rattle.serde_json.specs.View.{view}
use Rattle.serde_json.specs.declared.value.Value.{Value}
use Rattle.np_json.specs.Prelude.{◌>>=◌}
use Rattle.np_items.specs.Prelude.{ItemsReading, item_of, items_from}
use Rattle.np_items.specs.declared.item.Item.{Item}
use Rattle.np_items.proofs.ReadingLemmas.{after}

after-one : (items : List Item) (item : Item) (rest : ItemsReading (List Item)) → after items (rest >>= λ more. Ok (item ∷ more)) ≡ after (items ++ item ∷ []) rest
after-one items item (Ok more) = ap Ok (sym (append_assoc items (item ∷ []) more))
after-one items item (Err fault) = refl

-- the item of the next value stands behind those so far
pub after-next : (values : List Value) (place : ℕ) (value : Value) (items : List Item) (item : Item) → place < length values → value ≡ get_or values place value →
    item_of (place + 1) (view value) ≡ Ok item →
    after items (items_from (place + 1) (map view (drop place values))) ≡ after (items ++ item ∷ []) (items_from (place + 1 + 1) (map view (drop (place + 1) values)))
after-next values place value items item inside read is =
    let first : drop place values ≡ value ∷ drop (place + 1) values = drop_more values place value inside ∙ ap (λ (first : Value). first ∷ drop (place + 1) values) (sym read) in
    rw (first, is) (after-one items item (items_from (place + 1 + 1) (map view (drop (place + 1) values))))
