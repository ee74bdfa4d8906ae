-- Items that have no names and labels but such as reading lets through: words of letters, digits and the marks `-_./:`; names
-- are not empty and have no `/`.
use Rattle.std.specs.Prelude.{◌≡◌, true}
use Rattle.np_objects.specs.Prelude.{IsWellObject}
use Rattle.np_policies.specs.Prelude.{is_well_policy}
use Rattle.np_items.specs.declared.item.Item.{Item}
use Rattle.np_items.specs.declared.item.Item.TheVariants.{Object, Policy}

abbrev pub IsWellItem : Item → Type 0
IsWellItem (Object object) = IsWellObject object
IsWellItem (Policy policy) = is_well_policy policy ≡ true
