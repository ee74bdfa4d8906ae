-- The policies, services and ingresses that items are, and the order in which they stand.
use Rattle.std.specs.Prelude.{ℕ, ◌+◌, List, [], ◌∷◌, ◌++◌, fold, map, ◌==◌, if◌then◌else◌, Option, Some, None, ⊤}
use Rattle.std.specs.BTreeMap.{insert_entry}
use Rattle.std.specs.Cmp.Lexicographic.{slice_cmp}
use Rattle.std.specs.List.{filter_map}
use Rattle.std.specs.Option.{option_map_or}
use Rattle.std.specs.Ordering.{nat_cmp, ordering_then}
use Rattle.std.specs.declared.cmp.Ordering.{Ordering}
use Rattle.np_reading.specs.Readings.{Reading, refuse_found}
use Rattle.np_reading.specs.Types.{AdminPolicy, BasePolicy, EqualPriority, IngressItem, Item, NetPolicy, ObjectName, PlacedIngress, Rank, ServiceItem}
use Rattle.np_items.specs.declared.item.Item.TheVariants as item
use Rattle.np_objects.specs.declared.object.Object.TheVariants as object
use Rattle.np_owners.specs.Prelude.{compare_names}
use Rattle.np_policies.specs.declared.policy.Policy.TheVariants as policy

-- ---- what an item is

abbrev pub net_policy_in : Item → Option NetPolicy
net_policy_in (item.Policy (policy.Net net)) = Some net
net_policy_in other = None

abbrev pub admin_policy_in : Item → Option AdminPolicy
admin_policy_in (item.Policy (policy.Admin admin)) = Some admin
admin_policy_in other = None

abbrev pub base_policy_in : Item → Option BasePolicy
base_policy_in (item.Policy (policy.Base base)) = Some base
base_policy_in other = None

abbrev pub service_in : Item → Option ServiceItem
service_in (item.Object (object.Service one)) = Some one
service_in other = None

abbrev pub ingress_in : Item → Option IngressItem
ingress_in (item.Object (object.Ingress one)) = Some one
ingress_in other = None

-- ---- NetworkPolicies, in the order of their namespaces and then of their names

abbrev pub net_name : NetPolicy → ObjectName
net_name net = record { kind = []; namespace = net.namespace; name = net.name }

abbrev pub with_net : List (ObjectName × NetPolicy) → NetPolicy → List (ObjectName × NetPolicy)
with_net entries net = insert_entry compare_names entries (net_name net) net

abbrev pub net_policies_of : List Item → List NetPolicy
net_policies_of items = map (λ entry. entry.1) (fold with_net [] (filter_map net_policy_in items))

-- ---- admin policies, in the order of their priorities

abbrev pub with_admin : List (ℕ × AdminPolicy) → AdminPolicy → List (ℕ × AdminPolicy)
with_admin entries admin = insert_entry nat_cmp entries admin.priority admin

abbrev pub admin_policies_of : List Item → List AdminPolicy
admin_policies_of items = map (λ entry. entry.1) (fold with_admin [] (filter_map admin_policy_in items))

-- ---- the baseline, services and ingresses, in the order of the items

abbrev pub first_item : {X : Type 0} → List X → Option X
first_item [] = None
first_item (x ∷ xs) = Some x

abbrev pub baseline_of : List Item → Option BasePolicy
baseline_of items = first_item (filter_map base_policy_in items)

abbrev pub services_of : List Item → List ServiceItem
services_of items = filter_map service_in items

abbrev pub placed : ℕ → Option IngressItem → List PlacedIngress
placed number found = option_map_or (λ one. record { item = number; ingress = one } ∷ []) found []

-- ingresses with the numbers of their items, the first of which is `number`
abbrev pub ingresses_from : ℕ → List Item → List PlacedIngress
ingresses_from number [] = []
ingresses_from number (one ∷ items) = placed number (ingress_in one) ++ ingresses_from (number + 1) items

abbrev pub ingresses_of : List Item → List PlacedIngress
ingresses_of items = ingresses_from 1 items

-- ---- equal priorities

abbrev pub rank_of : AdminPolicy → Rank
rank_of admin = record { priority = admin.priority; name = admin.name }

-- by priority, and where that is equal by name
abbrev pub compare_ranks : Rank → Rank → Ordering
compare_ranks a b = ordering_then (nat_cmp a.priority b.priority) (slice_cmp nat_cmp a.name b.name)

abbrev pub with_rank : List (Rank × ⊤) → AdminPolicy → List (Rank × ⊤)
with_rank entries admin = insert_entry compare_ranks entries (rank_of admin) tt

abbrev pub rank_too : List (Rank × ⊤) → Option AdminPolicy → List (Rank × ⊤)
rank_too entries None = entries
rank_too entries (Some admin) = with_rank entries admin

-- the ranks of the admin policies, by priority and those of one priority by name
abbrev pub ranks_of : List Item → List Rank
ranks_of items = map (λ entry. entry.0) (fold with_rank [] (filter_map admin_policy_in items))

-- the first two neighbours of one priority: the least that two have, and its two least names
abbrev pub first_equal : List Rank → Option (Rank × Rank)
first_equal (a ∷ b ∷ ranks) = if a.priority == b.priority then Some (a, b) else first_equal (b ∷ ranks)
first_equal fewer = None

-- The rule that no two admin policies have one priority. An API server takes such policies, but leaves open which of them
-- goes first where both match a connection (network-policy-api reference, AdminNetworkPolicySpec, `priority`): there is
-- no one answer, so they are refused, whatever they match.
abbrev pub have_priorities_apart : List Item → Reading ⊤
have_priorities_apart items = refuse_found (λ ranks. EqualPriority ranks.0.priority ranks.0.name ranks.1.name) (first_equal (ranks_of items))
