-- The policies, Services and Ingresses of an estate are those of the items that were read.
use Rattle.std.specs.Prelude.{◌≡◌, ◌-◌, List, Some, map, option_to_list, All, IsPermutation}
use Rattle.std.specs.List.{filter_map, slice_get}
use Rattle.std.specs.Option.{option_and_then}
use Rattle.np_reading.specs.Listed.{admin_policy_in, base_policy_in, ingress_in, net_policy_in, service_in}
use Rattle.np_reading.specs.Types.{EstateLists, Item, PlacedIngress}

-- an ingress is that of the item whose number, from 1, it has
abbrev pub IsOfItsItem : List Item → PlacedIngress → Type 0
IsOfItsItem items placed = option_and_then ingress_in (slice_get items (placed.item - 1)) ≡ Some placed.ingress

-- Each policy, Service and Ingress among the items stands in the lists exactly once, and nothing else stands there.
-- Services and Ingresses stand in the order of the items.
pub record HoldsEachOnce (items : List Item) (lists : EstateLists) : Type 0 where
  pub net_policies : IsPermutation (filter_map net_policy_in items) lists.net_policies
  pub admin_policies : IsPermutation (filter_map admin_policy_in items) lists.admin_policies
  pub baseline : option_to_list lists.baseline ≡ filter_map base_policy_in items
  pub services : lists.services ≡ filter_map service_in items
  pub ingresses : map (λ placed. placed.ingress) lists.ingresses ≡ filter_map ingress_in items
  pub ingresses_numbered : All (IsOfItsItem items) lists.ingresses
