-- What the laws of inputs and items rest on. For `an_object_is_one_item`, `first_refused_input_stands` and `first_refused_item_stands`.
use Rattle.std.proofs.Common.{◌≡◌, ℕ, ◌+◌, List, [], ◌∷◌, ◌++◌, length, false, Ok, Err, codes, refl, sym, ap, ◌∙◌, add-zero, arith}
use Rattle.std.proofs.lemmas.Bool.{true≢false, false≢true, and_right, false_from_ne_true}
use Rattle.std.proofs.lemmas.Slice.Eq.{bytes_eq-Decides}
use Rattle.std.specs.Prelude.{is_ok}
use Rattle.std.specs.Str.{bytes_eq}
use Rattle.serde_json.specs.Data.{Data}
use Rattle.np_json.specs.Prelude.{text_of, ◌>>=◌}
use Rattle.np_json.specs.declared.field.Field.TheVariants.{Given}
use Rattle.np_items.specs.Prelude.{ItemsReading, input_values, is_list_kind, item_of, items_by, items_from, items_in, values_from}
use Rattle.np_items.specs.declared.item.Item.{Item}
use Rattle.np_items.specs.declared.fault.ItemsFault.{ItemsFault}

-- ---- an object

not_a_list : (kind : List ℕ) → is_list_kind kind ≡ false → bytes_eq kind (codes "List") ≡ false
not_a_list kind other = false_from_ne_true _ (λ same. true≢false (sym (ap is_list_kind ((bytes_eq-Decides kind (codes "List")).0 same)) ∙ other))

pub items_in-object : (input : ℕ) (value : Data) (version kind : List ℕ) → text_of (codes "apiVersion") value ≡ Given version → text_of (codes "kind") value ≡ Given kind → is_list_kind kind ≡ false →
    items_in input value ≡ Ok (value ∷ [])
unfolding items_in items_by
items_in-object input value version kind has_version has_kind other =
    rw (has_version, has_kind, and_right (bytes_eq version (codes "v1")) (bytes_eq kind (codes "List")) (not_a_list kind other), other) refl

-- ---- the first fault

-- where two steps give a value, the first gives one
first_gives : {A B : Type 0} (reading : ItemsReading A) (next : A → ItemsReading B) (y : B) → (reading >>= next) ≡ Ok y → (x : A) × (reading ≡ Ok x) × (next x ≡ Ok y)
first_gives (Ok x) next y is = (x, refl, is)
first_gives (Err fault) next y is = absurd (false≢true (ap is_ok is))

pub values_from-refused : (input : ℕ) (before others : List (List ℕ)) (text : List ℕ) (values : List Data) (fault : ItemsFault) → values_from input before ≡ Ok values →
    input_values (input + length before) text ≡ Err fault → values_from input (before ++ text ∷ others) ≡ Err fault
values_from-refused input [] others text values fault read is =
    let here : input_values input text ≡ Err fault = rw add-zero at is in
    rw here refl
values_from-refused input (first ∷ before) others text values fault read is =
    let step = first_gives (input_values input first) _ values read in
    let rest = first_gives (values_from (input + 1) before) _ values step.2 in
    let same : input + length (first ∷ before) ≡ (input + 1) + length before = omega arith in
    let later : values_from (input + 1) (before ++ text ∷ others) ≡ Err fault = values_from-refused (input + 1) before others text rest.0 fault rest.1 (rw same at is) in
    rw (step.1, later) refl

pub each_item-refused : (number : ℕ) (before others : List Data) (value : Data) (items : List Item) (fault : ItemsFault) → items_from number before ≡ Ok items →
    item_of (number + length before) value ≡ Err fault → items_from number (before ++ value ∷ others) ≡ Err fault
each_item-refused number [] others value items fault read is =
    let here : item_of number value ≡ Err fault = rw add-zero at is in
    rw here refl
each_item-refused number (first ∷ before) others value items fault read is =
    let step = first_gives (item_of number first) _ items read in
    let rest = first_gives (items_from (number + 1) before) _ items step.2 in
    let same : number + length (first ∷ before) ≡ (number + 1) + length before = omega arith in
    let later : items_from (number + 1) (before ++ value ∷ others) ≡ Err fault = each_item-refused (number + 1) before others value rest.0 fault rest.1 (rw same at is) in
    rw (step.1, later) refl
