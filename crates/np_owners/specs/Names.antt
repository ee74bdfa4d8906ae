-- The names of the objects of a list, and where they stand.
use Rattle.std.specs.Prelude.{◌≡◌, ℕ, ◌+◌, List, [], ◌∷◌, ◌++◌, length, Bool, ◌&&◌, false, Option, Some, None, ⊤, codes}
use Rattle.std.specs.Cmp.Lexicographic.{slice_cmp}
use Rattle.std.specs.List.{position}
use Rattle.std.specs.Map.{lookup}
use Rattle.std.specs.Option.{option_and_then, option_map_or, option_or}
use Rattle.std.specs.Ordering.{nat_cmp, ordering_then, is_eq}
use Rattle.std.specs.Str.{bytes_eq}
use Rattle.std.specs.declared.cmp.Ordering.{Ordering}
use Rattle.np_owners.specs.Types.{Item, ObjectName}
use Rattle.np_items.specs.declared.item.Item.TheVariants as item
use Rattle.np_objects.specs.Prelude.{kind_name}
use Rattle.np_objects.specs.declared.object.Object.{Object}
use Rattle.np_objects.specs.declared.object.Object.TheVariants as object
use Rattle.np_owners.specs.declared.fault.PlacesFault.{PlacesFault}
use Rattle.np_owners.specs.declared.fault.PlacesFault.TheVariants.{Duplicate, NoMemory}
use Rattle.np_policies.specs.declared.policy.Policy.{Policy}
use Rattle.np_policies.specs.declared.policy.Policy.TheVariants as policy

abbrev pub object_named : List ℕ → List ℕ → List ℕ → Option ObjectName
object_named kind namespace name = Some (record { kind = kind; namespace = namespace; name = name })

-- the name of an object; one of the whole cluster has the empty namespace
abbrev pub name_of_object : Object → Option ObjectName
name_of_object (object.Pod pod) = object_named (codes "Pod") pod.namespace pod.name
name_of_object (object.Namespace namespace) = object_named (codes "Namespace") [] namespace.name
name_of_object (object.Controller controller) = object_named (kind_name controller.kind) controller.namespace controller.name
name_of_object (object.Service service) = object_named (codes "Service") service.namespace service.name
name_of_object (object.Ingress ingress) = object_named (codes "Ingress") ingress.namespace ingress.name
name_of_object object.Other = None

abbrev pub policy_name : Policy → Option ObjectName
policy_name (policy.Net net) = object_named (codes "NetworkPolicy") net.namespace net.name
policy_name (policy.Admin admin) = object_named (codes "AdminNetworkPolicy") [] admin.name
policy_name (policy.Base base) = object_named (codes "BaselineAdminNetworkPolicy") [] (codes "default")

-- the name of an item, if it is of a kind that is read
abbrev pub name_of_item : Item → Option ObjectName
name_of_item (item.Object object) = name_of_object object
name_of_item (item.Policy policy) = policy_name policy

abbrev pub same_name : ObjectName → ObjectName → Bool
same_name a b = bytes_eq a.kind b.kind && (bytes_eq a.namespace b.namespace && bytes_eq a.name b.name)

abbrev pub is_item_named : ObjectName → Item → Bool
is_item_named name one = option_map_or (same_name name) (name_of_item one) false

-- the place, from 0, of the first item of a name
abbrev pub place_of : List Item → ObjectName → Option ℕ
place_of items name = position (is_item_named name) items

-- the order of names, kind by kind
abbrev pub compare_names : ObjectName → ObjectName → Ordering
compare_names a b = ordering_then (slice_cmp nat_cmp a.kind b.kind) (ordering_then (slice_cmp nat_cmp a.namespace b.namespace) (slice_cmp nat_cmp a.name b.name))

-- the place that is noted of a name
abbrev pub noted_place : List (ObjectName × ℕ) → ObjectName → Option ℕ
noted_place entries name = lookup (λ other. is_eq (compare_names name other)) entries

-- the places that are noted are those of the items, at each name
abbrev pub HoldsPlaces : List Item → List (ObjectName × ℕ) → Type 0
HoldsPlaces items entries = (name : ObjectName) → noted_place entries name ≡ place_of items name

-- the numbers, from 1, of an item and of one before it that has its name
abbrev pub repeated : List Item → Item → Option (ℕ × ℕ)
repeated earlier one = option_and_then (λ name. option_and_then (λ first. Some (first + 1, length earlier + 1)) (place_of earlier name)) (name_of_item one)

-- the first item of a list that has the name of an earlier one
abbrev pub repeat_after : List Item → List Item → Option (ℕ × ℕ)
repeat_after earlier [] = None
repeat_after earlier (one ∷ items) = option_or (repeated earlier one) (repeat_after (earlier ++ (one ∷ [])) items)

abbrev pub first_repeat : List Item → Option (ℕ × ℕ)
first_repeat items = repeat_after [] items

-- what is told where items have no places: the repeat that was found; want of memory tells nothing
abbrev pub TellsRepeat : Option (ℕ × ℕ) → PlacesFault → Type 0
TellsRepeat repeat (Duplicate first second) = repeat ≡ Some (first, second)
TellsRepeat repeat NoMemory = ⊤
