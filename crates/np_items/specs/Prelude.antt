-- The definitions and types of this crate that its proofs and the crates above speak of, one import line a file.
pub use Rattle.np_items.specs.Inputs.{all_values, is_list_kind, or_no_list, or_none, or_not_json, values, values_from}
unfoldable pub use Rattle.np_items.specs.Inputs.{input_values, items_by, items_in, json_of}
pub use Rattle.np_items.specs.Items.{items_from, numbered, policy_or_object}
unfoldable pub use Rattle.np_items.specs.Items.{item_of, items_of, must_be_few, must_be_no_list}
pub use Rattle.np_items.specs.Readings.{Gives, GivesAs, ItemsReading}
pub use Rattle.np_items.specs.WellFormed.{IsWellItem}
