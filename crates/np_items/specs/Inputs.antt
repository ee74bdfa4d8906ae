-- What inputs list: each is a JSON text, and its value is a list of items or one item.
use Rattle.std.specs.Prelude.{ℕ, ◌+◌, List, [], ◌∷◌, ◌++◌, Bool, ◌&&◌, if◌then◌else◌, nat_eq, Option, Some, None, codes, Ok, Err}
use Rattle.std.specs.List.{ends_with}
use Rattle.std.specs.Str.{bytes_eq, is_utf8}
use Rattle.serde_json.specs.Data.{Data, Items, no_items, item}
use Rattle.serde_json.specs.Read.{read}
use Rattle.np_json.specs.Prelude.{list_of, text_of, ◌>>=◌}
use Rattle.np_json.specs.declared.field.Field.{Field}
use Rattle.np_json.specs.declared.field.Field.TheVariants.{Missing, Wrong, Given}
use Rattle.np_items.specs.Readings.{ItemsReading}
use Rattle.np_items.specs.declared.fault.ItemsFault.TheVariants.{NotJson, NotAList}

-- The JSON value of a text in UTF-8, where it is one within the nesting that is read. Where an object has a member
-- twice, the last one counts.
unfoldable pub json_of : List ℕ → Option Data
json_of text = if is_utf8 text then read text else None

-- the JSON value that the input of that number must have
abbrev pub or_not_json : ℕ → Option Data → ItemsReading Data
or_not_json input None = Err (NotJson input)
or_not_json input (Some value) = Ok value

-- whether a kind is that of a list: its name ends in `List`, whatever project it is of
abbrev pub is_list_kind : List ℕ → Bool
is_list_kind kind = ends_with nat_eq kind (codes "List")

-- a member that an input's value must have
abbrev pub or_no_list : {A : Type 0} → ℕ → Field A → ItemsReading A
or_no_list input (Given x) = Ok x
or_no_list input other = Err (NotAList input)

-- the items of a JSON list, one after another
abbrev pub values : Items → List Data
values no_items = []
values (item value items) = value ∷ values items

-- the items of a list, and none where they are missing or null
abbrev pub or_none : ℕ → Field Items → ItemsReading (List Data)
or_none input Missing = Ok []
or_none input Wrong = Err (NotAList input)
or_none input (Given items) = Ok (values items)

-- a `v1` List lists its items, and another value itself, unless it is another list
unfoldable pub items_by : ℕ → List ℕ → List ℕ → Data → ItemsReading (List Data)
items_by input version kind value =
    if bytes_eq version (codes "v1") && bytes_eq kind (codes "List") then or_none input (list_of (codes "items") value)
    else if is_list_kind kind then Err (NotAList input)
    else Ok (value ∷ [])

-- what the value of an input lists
unfoldable pub items_in : ℕ → Data → ItemsReading (List Data)
items_in input value = do
  items_by input (← or_no_list input (text_of (codes "apiVersion") value)) (← or_no_list input (text_of (codes "kind") value)) value

-- what an input lists
unfoldable pub input_values : ℕ → List ℕ → ItemsReading (List Data)
input_values input text = or_not_json input (json_of text) >>= items_in input

-- what inputs list, numbered from `input` on
abbrev pub values_from : ℕ → List (List ℕ) → ItemsReading (List Data)
values_from input [] = Ok []
values_from input (text ∷ texts) = do Ok ((← input_values input text) ++ (← values_from (input + 1) texts))

-- what all inputs list, in order
abbrev pub all_values : List (List ℕ) → ItemsReading (List Data)
all_values texts = values_from 1 texts
