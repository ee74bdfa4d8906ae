-- Which controllers stand for a pod of their template.
use Rattle.std.specs.Prelude.{ℕ, List, length, map, Bool, true, false, ◌&&◌, not, is_some, is_none}
use Rattle.std.specs.List.{range_with_len, slice_get}
use Rattle.std.specs.Option.{option_map_or}
use Rattle.np_owners.specs.Chains.{is_over_some}
use Rattle.np_owners.specs.Types.{Item}
use Rattle.np_items.specs.declared.item.Item.TheVariants as item
use Rattle.np_objects.specs.declared.object.Object.TheVariants as object
use Rattle.np_owners.specs.Owners.{owner_place, ups}

abbrev pub is_pod : Item → Bool
is_pod (item.Object (object.Pod pod)) = true
is_pod other = false

-- Whether some listed pod has the item at a place in its chain of owners. A pod that is left out of the estate counts
-- too, so no pod is made for a CronJob between two runs where one of its Jobs and a finished pod of that are listed.
abbrev pub has_pods : List Item → ℕ → Bool
has_pods items place = is_over_some (ups items) (map is_pod items) place

-- whether an item is a controller that has a template and wants pods: only one whose `replicas` is 0 wants none
abbrev pub wants_pods : Item → Bool
wants_pods (item.Object (object.Controller controller)) = is_some controller.template && not controller.none_wanted
wants_pods other = false

-- Whether the item at a place is a controller that makes pods of which none is listed: it has a template and wants
-- pods, its own owner is not listed, and no pod has it in its chain of owners. The template then stands for one pod,
-- whatever `replicas` says, so a workload of this pod alone has no row to itself.
abbrev pub makes_pod : List Item → ℕ → Bool
makes_pod items place =
    option_map_or (λ one. wants_pods one && is_none (owner_place items one)) (slice_get items place) false && not (has_pods items place)

abbrev pub makers : List Item → List Bool
makers items = map (makes_pod items) (range_with_len 0 (length items))
