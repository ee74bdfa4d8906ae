-- Refusals, and their texts.
use Rattle.std.specs.Prelude.{ℕ, List, ◌++◌, codes, decimal}
use Rattle.np_reading.specs.Types.{Bad, Duplicate, EqualPriority, ItemsFault, NestedList, NoMemory, NotAList, NotJson, OwnerCycle, Refusal, TooManyItems}
use Rattle.np_items.specs.declared.fault.ItemsFault.TheVariants as items
use Rattle.np_json.specs.Prelude.{item_fault_text}
use Rattle.np_owners.specs.declared.fault.ChainsFault.{ChainsFault}
use Rattle.np_owners.specs.declared.fault.ChainsFault.TheVariants as chains
use Rattle.np_owners.specs.declared.fault.PlacesFault.{PlacesFault}
use Rattle.np_owners.specs.declared.fault.PlacesFault.TheVariants as places

-- the refusal for which items are not read; `NoMemory` is for code alone, since no reading gives it
abbrev pub items_refusal : ItemsFault → Refusal
items_refusal (items.NotJson input) = NotJson input
items_refusal (items.NotAList input) = NotAList input
items_refusal (items.TooManyItems count) = TooManyItems count
items_refusal (items.NestedList item) = NestedList item
items_refusal (items.Bad fault) = Bad fault
items_refusal items.NoMemory = NoMemory

-- the refusal for which they have no places
abbrev pub places_refusal : PlacesFault → Refusal
places_refusal (places.Duplicate first second) = Duplicate first second
places_refusal places.NoMemory = NoMemory

-- the refusal for which they have no chains of owners
abbrev pub chains_refusal : ChainsFault → Refusal
chains_refusal (chains.OwnerCycle name) = OwnerCycle name
chains_refusal chains.NoMemory = NoMemory

-- `input 1: NotJson`
abbrev pub refusal_text : Refusal → List ℕ
refusal_text (NotJson input) = codes "input " ++ decimal input ++ codes ": NotJson"
refusal_text (NotAList input) = codes "input " ++ decimal input ++ codes ": NotAList"
refusal_text (TooManyItems count) = codes "TooManyItems " ++ decimal count
refusal_text (NestedList item) = codes "item " ++ decimal item ++ codes ": NestedList"
refusal_text (Bad fault) = item_fault_text fault
refusal_text (Duplicate first second) = codes "items " ++ decimal first ++ codes " and " ++ decimal second ++ codes ": Duplicate"
refusal_text (EqualPriority priority a b) = codes "EqualPriority " ++ decimal priority ++ codes ": " ++ a ++ codes ", " ++ b
refusal_text (OwnerCycle name) = codes "OwnerCycle " ++ name
refusal_text NoMemory = codes "out of memory"
