-- The owners of objects, and the chains that they make.
use Rattle.std.specs.Prelude.{◌≡◌, ℕ, List, [], ◌++◌, length, map, if◌then◌else◌, Option, Some, None, ⊤, codes}
use Rattle.std.specs.List.{range_with_len, slice_get}
use Rattle.std.specs.Option.{option_and_then, option_map, option_map_or, option_or}
use Rattle.np_owners.specs.Chains.{first_cycle, top}
use Rattle.np_owners.specs.Types.{Item, ObjectName, Owner, OwnerRef}
use Rattle.np_items.specs.declared.item.Item.TheVariants as item
use Rattle.np_objects.specs.Prelude.{is_controller_kind}
use Rattle.np_objects.specs.declared.object.Object.TheVariants as object
use Rattle.np_owners.specs.Names.{name_of_item, place_of}
use Rattle.np_owners.specs.declared.fault.ChainsFault.{ChainsFault}
use Rattle.np_owners.specs.declared.fault.ChainsFault.TheVariants.{OwnerCycle, NoMemory}

-- ---- owners that items name

-- the owner of an item
abbrev pub owner_of_item : Item → Option OwnerRef
owner_of_item (item.Object (object.Pod pod)) = pod.owner
owner_of_item (item.Object (object.Controller controller)) = controller.owner
owner_of_item other = None

-- ---- chains

-- the place of the listed controller of an owner's kind and name in a namespace, whatever API group the owner is of
abbrev pub controller_place : List Item → List ℕ → OwnerRef → Option ℕ
controller_place items namespace owner =
    if is_controller_kind owner.kind then place_of items (record { kind = owner.kind; namespace = namespace; name = owner.name }) else None

abbrev pub place_in_namespace : List Item → Option OwnerRef → ObjectName → Option ℕ
place_in_namespace items owner name = option_and_then (controller_place items name.namespace) owner

-- the place of the listed controller that owns an item
abbrev pub owner_place : List Item → Item → Option ℕ
owner_place items one = option_and_then (place_in_namespace items (owner_of_item one)) (name_of_item one)

-- over each item the listed controller that owns it
abbrev pub ups : List Item → List (Option ℕ)
ups items = map (owner_place items) items

-- ---- cycles

-- `namespace/name[Kind]`
abbrev pub full_name : ObjectName → List ℕ
full_name name = name.namespace ++ codes "/" ++ name.name ++ codes "[" ++ name.kind ++ codes "]"

abbrev pub full_name_of : Item → List ℕ
full_name_of one = option_map_or full_name (name_of_item one) []

-- the name of the first listed controller that stands in its own chain of owners
abbrev pub first_in_cycle : List Item → Option (List ℕ)
first_in_cycle items = option_map (λ place. option_map_or full_name_of (slice_get items place) []) (first_cycle (ups items))

-- what is told where items have no chains: the name that was found; want of memory tells nothing
abbrev pub TellsCycle : Option (List ℕ) → ChainsFault → Type 0
TellsCycle found (OwnerCycle name) = found ≡ Some name
TellsCycle found NoMemory = ⊤

-- ---- top owners

abbrev pub by_reference : OwnerRef → Owner
by_reference owner = record { kind = owner.kind; name = owner.name }

abbrev pub owner_named : ObjectName → Owner
owner_named name = record { kind = name.kind; name = name.name }

-- the owner that an item names, listed or not, or it itself where it names none
abbrev pub last_owner : Item → Option Owner
last_owner one = option_or (option_map by_reference (owner_of_item one)) (option_map owner_named (name_of_item one))

-- the top owner of the item at a place: the last one that its chain reaches
abbrev pub top_owner : List Item → ℕ → Option Owner
top_owner items place = option_and_then last_owner (slice_get items (top (ups items) place))

abbrev pub top_owners : List Item → List (Option Owner)
top_owners items = map (top_owner items) (range_with_len 0 (length items))
