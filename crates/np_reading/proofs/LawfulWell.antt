-- What is read of well formed items is well formed. For LawfulReading.
use Rattle.std.proofs.Common.{◌≡◌, ℕ, ◌+◌, List, [], ◌∷◌, ◌++◌, Bool, true, ◌&&◌, Option, Some, None, refl}
use Rattle.std.specs.Prelude.{All}
use Rattle.std.specs.List.{AllByRecursion, filter_map, list_all}
use Rattle.std.specs.Option.{option_map_or}
use Rattle.std.proofs.lemmas.Bool.{and_from, and_parts}
use Rattle.std.proofs.lemmas.List.Elements.{recursion_from_All}
use Rattle.np_reading.proofs.LawfulLists.{all-filter_map, list_all-from_all}
use Rattle.np_reading.proofs.LawfulNamespaces.{namespace_labels-well}
use Rattle.np_reading.proofs.LawfulOwners.{top_owner-well}
use Rattle.np_reading.proofs.LawfulPods.{IsPodOf, all-pods_from}
use Rattle.np_reading.proofs.LawfulPolicies.{all-admin_policies, all-net_policies}
use Rattle.np_reading.specs.Prelude.{BasePolicy, IngressItem, Item, Pod, admin_policies_of, admin_policy_in, base_policy_in, baseline_of, estate_of_items, first_item, ingress_in, ingresses_from, ingresses_of, net_policies_of, net_policy_in, placed, pods_of, service_in, services_of}
use Rattle.np_model.specs.Prelude.{is_name, is_well, is_well_admin_policy, is_well_base_policy, is_well_ingress, is_well_labels, is_well_net_policy, is_well_pod, is_well_ports, is_well_service, option_all}
use Rattle.np_items.specs.Prelude.{IsWellItem}
use Rattle.np_items.specs.declared.item.Item.TheVariants as item
use Rattle.np_objects.specs.declared.object.Object.TheVariants as object
use Rattle.np_policies.specs.declared.policy.Policy.TheVariants as policy

some_passes : {A : Type 0} (p : A → Bool) (o : Option A) (x : A) → o ≡ Some x → option_all p o ≡ true → p x ≡ true
some_passes p o x is all = rw is at all

-- ---- policies

net_policy-well : (one : Item) → IsWellItem one → option_all is_well_net_policy (net_policy_in one) ≡ true
net_policy-well (item.Policy (policy.Net net)) is = is
net_policy-well (item.Policy (policy.Admin other)) is = refl
net_policy-well (item.Policy (policy.Base other)) is = refl
net_policy-well (item.Object _) is = refl

admin_policy-well : (one : Item) → IsWellItem one → option_all is_well_admin_policy (admin_policy_in one) ≡ true
admin_policy-well (item.Policy (policy.Admin admin)) is = is
admin_policy-well (item.Policy (policy.Net other)) is = refl
admin_policy-well (item.Policy (policy.Base other)) is = refl
admin_policy-well (item.Object _) is = refl

base_policy-well : (one : Item) → IsWellItem one → option_all is_well_base_policy (base_policy_in one) ≡ true
base_policy-well (item.Policy (policy.Base base)) is = is
base_policy-well (item.Policy (policy.Net other)) is = refl
base_policy-well (item.Policy (policy.Admin other)) is = refl
base_policy-well (item.Object _) is = refl

first_of-well : (bases : List BasePolicy) → AllByRecursion (λ base. is_well_base_policy base ≡ true) bases → option_map_or is_well_base_policy (first_item bases) true ≡ true
first_of-well [] all = refl
first_of-well (base ∷ bases) all = all.0

-- ---- services and ingresses

service-well : (one : Item) → IsWellItem one → option_all is_well_service (service_in one) ≡ true
service-well (item.Object (object.Service service_in)) is = is
service-well (item.Object (object.Pod other)) is = refl
service-well (item.Object (object.Namespace other)) is = refl
service-well (item.Object (object.Controller other)) is = refl
service-well (item.Object (object.Ingress other)) is = refl
service-well (item.Object object.Other) is = refl
service-well (item.Policy other) is = refl

ingress-well : (one : Item) → IsWellItem one → option_all is_well_ingress (ingress_in one) ≡ true
ingress-well (item.Object (object.Ingress ingress_in)) is = is
ingress-well (item.Object (object.Pod other)) is = refl
ingress-well (item.Object (object.Namespace other)) is = refl
ingress-well (item.Object (object.Controller other)) is = refl
ingress-well (item.Object (object.Service other)) is = refl
ingress-well (item.Object object.Other) is = refl
ingress-well (item.Policy other) is = refl

ingresses_from-well : (number : ℕ) (items : List Item) → AllByRecursion IsWellItem items → list_all (λ placed. is_well_ingress placed.ingress) (ingresses_from number items) ≡ true
ingresses_from-well number [] all = refl
ingresses_from-well number (one ∷ items) all = by (ingress_in one) (ingress-well one all.0) (ingresses_from-well (number + 1) items all.1)
  where
    by : (o : Option IngressItem) → option_all is_well_ingress o ≡ true → list_all (λ placed. is_well_ingress placed.ingress) (ingresses_from (number + 1) items) ≡ true →
        list_all (λ placed. is_well_ingress placed.ingress) (placed number o ++ ingresses_from (number + 1) items) ≡ true
    by None is rest = rest
    by (Some found) is rest = and_from (is_well_ingress found) _ is rest

-- ---- pods

is_well_pod-from_parts : (items : List Item) → All IsWellItem items → (one : Item) (pod : Pod) → IsPodOf items one pod → IsWellItem one → is_well_pod pod ≡ true
is_well_pod-from_parts items all one pod of is =
    let ported = and_parts (is_name pod.namespace && is_name pod.name && is_well_labels pod.labels) (is_well_ports pod.ports) (of.well is) in
    let labelled = and_parts (is_name pod.namespace && is_name pod.name) (is_well_labels pod.labels) ported.0 in
    let called = and_parts (is_name pod.namespace) (is_name pod.name) labelled.0 in
    let around : is_well_labels pod.namespace_labels ≡ true = rw of.labels (namespace_labels-well items all pod.namespace called.0) in
    let owned = and_parts (is_name pod.owner.kind) (is_name pod.owner.name) (top_owner-well items all of.owner.0 pod.owner of.owner.1) in
    and_from _ (is_name pod.owner.name)
    (and_from _ (is_name pod.owner.kind)
    (and_from _ (is_well_ports pod.ports)
    (and_from _ (is_well_labels pod.labels)
    (and_from (is_name pod.namespace && is_name pod.name) (is_well_labels pod.namespace_labels) labelled.0 around)
    labelled.1) ported.1) owned.0) owned.1

-- ---- all of it

pub estate_of_items-well : (items : List Item) → All IsWellItem items → is_well (estate_of_items items) ≡ true
estate_of_items-well items all =
    and_from _ _ (and_from _ _ (and_from _ _ (and_from _ _ (and_from _ _ pods nets) admins) base) services) ingresses
  where
    each : AllByRecursion IsWellItem items
    each = recursion_from_All IsWellItem items all

    pods : list_all is_well_pod (pods_of items) ≡ true
    pods = list_all-from_all is_well_pod (pods_of items) (all-pods_from items IsWellItem (λ pod. is_well_pod pod ≡ true) (is_well_pod-from_parts items all) 0 items each)

    nets : list_all is_well_net_policy (net_policies_of items) ≡ true
    nets = list_all-from_all is_well_net_policy (net_policies_of items)
        (all-net_policies (λ net. is_well_net_policy net ≡ true) items
        (all-filter_map net_policy_in IsWellItem (λ net. is_well_net_policy net ≡ true) (λ one net is well. some_passes is_well_net_policy (net_policy_in one) net is (net_policy-well one well)) items each))

    admins : list_all is_well_admin_policy (admin_policies_of items) ≡ true
    admins = list_all-from_all is_well_admin_policy (admin_policies_of items)
        (all-admin_policies (λ admin. is_well_admin_policy admin ≡ true) items
        (all-filter_map admin_policy_in IsWellItem (λ admin. is_well_admin_policy admin ≡ true)
        (λ one admin is well. some_passes is_well_admin_policy (admin_policy_in one) admin is (admin_policy-well one well)) items each))

    base : option_map_or is_well_base_policy (baseline_of items) true ≡ true
    base = first_of-well (filter_map base_policy_in items)
        (all-filter_map base_policy_in IsWellItem (λ base. is_well_base_policy base ≡ true)
        (λ one base is well. some_passes is_well_base_policy (base_policy_in one) base is (base_policy-well one well)) items each)

    services : list_all is_well_service (services_of items) ≡ true
    services = list_all-from_all is_well_service (services_of items)
        (all-filter_map service_in IsWellItem (λ found. is_well_service found ≡ true) (λ one found is well. some_passes is_well_service (service_in one) found is (service-well one well)) items each)

    ingresses : list_all (λ placed. is_well_ingress placed.ingress) (ingresses_of items) ≡ true
    ingresses = ingresses_from-well 1 items each
