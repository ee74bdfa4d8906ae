-- The items of inputs.
use Rattle.std.specs.Prelude.{ℕ, ◌+◌, List, [], ◌∷◌, length, nat_le, if◌then◌else◌, Option, Some, None, Ok, Err, ⊤}
use Rattle.serde_json.specs.Data.{Data}
use Rattle.np_json.specs.Prelude.{Read, type_meta, ◌>>=◌, ◌>>◌}
use Rattle.np_objects.specs.Prelude.{object_of}
use Rattle.np_policies.specs.Prelude.{policy_of}
use Rattle.np_policies.specs.declared.policy.Policy.{Policy}
use Rattle.np_items.specs.Inputs.{all_values, is_list_kind}
use Rattle.np_items.specs.Readings.{ItemsReading}
use Rattle.np_items.specs.declared.item.Item.{Item}
use Rattle.np_items.specs.declared.item.Item.TheVariants as item
use Rattle.np_items.specs.declared.fault.ItemsFault.TheVariants.{TooManyItems, NestedList, Bad}

-- what a shape reads of the item of that number
abbrev pub numbered : {A : Type 0} → ℕ → Read A → ItemsReading A
numbered number (Ok output) = Ok output
numbered number (Err flaw) = Err (Bad (record { item = number; path = flaw.path; kind = flaw.kind }))

-- The rule that an item is no list: one of any kind that ends in `List`, whatever its version and project, is refused,
-- since it would otherwise be skipped with all that it lists, policies among them.
unfoldable pub must_be_no_list : ℕ → Data → ItemsReading ⊤
must_be_no_list number value = numbered number (type_meta value) >>= λ type. if is_list_kind type.kind then Err (NestedList number) else Ok tt

-- the policy that an item is, or else the object
abbrev pub policy_or_object : ℕ → Data → Option Policy → ItemsReading Item
policy_or_object number value (Some policy) = Ok (item.Policy policy)
policy_or_object number value None = do Ok (item.Object (← numbered number (object_of value)))

-- the item of that number
unfoldable pub item_of : ℕ → Data → ItemsReading Item
item_of number value = must_be_no_list number value >> do policy_or_object number value (← numbered number (policy_of value))

-- each value as an item, numbered from `number` on
abbrev pub items_from : ℕ → List Data → ItemsReading (List Item)
items_from number [] = Ok []
items_from number (value ∷ values) = do Ok ((← item_of number value) ∷ (← items_from (number + 1) values))

-- the rule that no more items are listed than are read
unfoldable pub must_be_few : ℕ → ItemsReading ⊤
must_be_few count = if nat_le count 20000 then Ok tt else Err (TooManyItems count)

-- the items that all inputs list, numbered from 1 over all of them
unfoldable pub items_of : List (List ℕ) → ItemsReading (List Item)
items_of texts = do
  values ← all_values texts
  must_be_few (length values)
  items_from 1 values
