-- What is left out of the estate, and counted.
use Rattle.std.specs.Prelude.{ℕ, List, length, ◌==◌, Bool, true, false, ◌&&◌, if◌then◌else◌, Option, Some, None}
use Rattle.std.specs.List.{count_by, list_any, range_with_len, slice_get}
use Rattle.std.specs.Option.{option_and_then, option_map_or}
use Rattle.np_reading.specs.Ends.{is_on_host}
use Rattle.np_reading.specs.Types.{AdminPolicy, BasePolicy, Finished, Host, Item, LeftOut, Pod, Skipped}
use Rattle.np_items.specs.declared.item.Item.TheVariants as item
use Rattle.np_objects.specs.declared.object.Object.TheVariants as object
use Rattle.np_owners.specs.Prelude.{makes_pod}
use Rattle.np_model.specs.Prelude.{admin_peers, is_networks}

-- Why an item is left out, if it is one that is counted; `makes` says whether it is a controller that stands for a pod. A pod that is
-- on the network of its node and finished counts for the first alone.
abbrev pub left_out : Bool → Item → Option LeftOut
left_out makes (item.Object (object.Pod pod)) = if pod.host_network then Some Host else if pod.finished then Some Finished else None
left_out makes (item.Object (object.Controller controller)) = if makes && is_on_host controller then Some Host else None
left_out makes (item.Object object.Other) = Some Skipped
left_out makes other = None

abbrev pub is_for : LeftOut → LeftOut → Bool
is_for Host Host = true
is_for Finished Finished = true
is_for Skipped Skipped = true
is_for why other = false

-- whether the item at a place is left out for that reason
abbrev pub is_left_out : List Item → LeftOut → ℕ → Bool
is_left_out items why place = option_map_or (is_for why) (option_and_then (left_out (makes_pod items place)) (slice_get items place)) false

-- how many items are left out for a reason
abbrev pub count_left_out : List Item → LeftOut → ℕ
count_left_out items why = count_by (is_left_out items why) (range_with_len 0 (length items))

-- ---- pods that no peer of networks matches

-- whether some admin policy or the baseline has a peer of networks
abbrev pub list_networks : List AdminPolicy → Option BasePolicy → Bool
list_networks policies baseline = list_any is_networks (admin_peers policies baseline)

-- the pods without an address, where there is a peer of networks, and none where there is not
abbrev pub unaddressed : List Pod → List AdminPolicy → Option BasePolicy → ℕ
unaddressed pods policies baseline = if list_networks policies baseline then count_by (λ pod. length pod.addresses == 0) pods else 0
