-- Lists that are members of JSON objects.
use Rattle.std.specs.Prelude.{ℕ, List, Bool, true, ◌&&◌, option_and_then, unwrap_or}
use Rattle.serde_json.specs.Data.{Data, Items, no_items, item}
use Rattle.serde_json.specs.Find.{as_array}
use Rattle.np_json.specs.Prelude.{member_of}

-- whether each of the items passes a test
abbrev pub all_items : (Data → Bool) → Items → Bool
all_items test no_items = true
all_items test (item value items) = test value && all_items test items

-- the items of a member, and none where it is missing
abbrev pub items_at : List ℕ → Data → Items
items_at name value = unwrap_or (option_and_then as_array (member_of name value)) no_items
