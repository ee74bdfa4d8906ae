-- The lists of an estate, gathered item by item.
use Rattle.std.specs.Prelude.{ℕ, ◌+◌, List, [], ◌∷◌, ◌++◌, Option, Some, None, map}
use Rattle.std.specs.List.{zip}
use Rattle.std.specs.Option.{option_and_then}
use Rattle.np_reading.specs.Ends.{pod_of_object}
use Rattle.np_reading.specs.LeftOut.{unaddressed}
use Rattle.np_reading.specs.Listed.{with_admin, with_net}
use Rattle.np_reading.specs.declared.grouped_items.GroupedItems.{GroupedItems}
use Rattle.np_reading.specs.Types.{AdminPolicy, BasePolicy, EstateLists, Item, NetPolicy, Notes, Object, ObjectName, PlacedIngress, Pod, PodContext, ServiceItem}
use Rattle.np_items.specs.declared.item.Item.TheVariants as item
use Rattle.np_objects.specs.declared.object.Object.TheVariants as object
use Rattle.np_policies.specs.declared.policy.Policy.{Policy}
use Rattle.np_policies.specs.declared.policy.Policy.TheVariants as policy

-- what is gathered, as lists
pub record Seen : Type 0 where
  pub pods : List Pod
  pub nets : List (ObjectName × NetPolicy)
  pub admins : List (ℕ × AdminPolicy)
  pub baseline : Option BasePolicy
  pub services : List ServiceItem
  pub ingresses : List PlacedIngress

abbrev pub seen : GroupedItems → Seen
seen g = record {
  pods = g.pods;
  nets = g.net_policies.entries;
  admins = g.admin_policies.entries;
  baseline = g.baseline;
  services = g.services;
  ingresses = g.ingresses;
}

abbrev pub nothing : Seen
nothing = record { pods = []; nets = []; admins = []; baseline = None; services = []; ingresses = [] }

abbrev pub or_first : {X : Type 0} → Option X → Option X → Option X
or_first (Some x) later = Some x
or_first None later = later

-- with what a policy gives
abbrev pub with_policy : Seen → Policy → Seen
with_policy so_far (policy.Net net) = record so_far { nets = with_net so_far.nets net }
with_policy so_far (policy.Admin admin) = record so_far { admins = with_admin so_far.admins admin }
with_policy so_far (policy.Base base) = record so_far { baseline = or_first so_far.baseline (Some base) }

abbrev pub with_pod : Seen → Option Pod → Seen
with_pod so_far None = so_far
with_pod so_far (Some pod) = record so_far { pods = so_far.pods ++ pod ∷ [] }

-- with what the object of the item of a number gives
abbrev pub with_object : Seen → ℕ → Object → Option PodContext → Seen
with_object so_far number (object.Service one) around = record so_far { services = so_far.services ++ one ∷ [] }
with_object so_far number (object.Ingress one) around = record so_far { ingresses = so_far.ingresses ++ record { item = number; ingress = one } ∷ [] }
with_object so_far number (object.Pod pod) around = with_pod so_far (option_and_then (pod_of_object (object.Pod pod)) around)
with_object so_far number (object.Controller controller) around = with_pod so_far (option_and_then (pod_of_object (object.Controller controller)) around)
with_object so_far number _ around = so_far

-- with what the item of a number gives
abbrev pub with_item : Seen → ℕ → Item → Option PodContext → Seen
with_item so_far number (item.Object object) around = with_object so_far number object around
with_item so_far number (item.Policy policy) around = with_policy so_far policy

-- with what items give, the first of which has that number, each beside what the rest of the list says of its pod
abbrev pub with_pairs : Seen → ℕ → List (Item × Option PodContext) → Seen
with_pairs so_far number [] = so_far
with_pairs so_far number (pair ∷ pairs) = with_pairs (with_item so_far number pair.0 pair.1) (number + 1) pairs

abbrev pub with_items : Seen → ℕ → List Item → List (Option PodContext) → Seen
with_items so_far number items arounds = with_pairs so_far number (zip items arounds)

-- the lists of what was gathered
abbrev pub in_order : Seen → Notes → EstateLists
in_order so_far notes = let admins = map (λ entry. entry.1) so_far.admins in record {
  pods = so_far.pods;
  net_policies = map (λ entry. entry.1) so_far.nets;
  admin_policies = admins;
  baseline = so_far.baseline;
  services = so_far.services;
  ingresses = so_far.ingresses;
  notes = record notes { unaddressed = unaddressed so_far.pods admins so_far.baseline };
}
