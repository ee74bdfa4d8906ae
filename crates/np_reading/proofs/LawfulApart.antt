-- What is read of items of which no two have one name is apart. For LawfulReading and OnceLemmas.
use Rattle.std.proofs.Common.{◌≡◌, ℕ, List, [], filter, true, Some, None, refl, ap}
use Rattle.std.specs.Prelude.{codes, AllPairs}
use Rattle.std.specs.Cmp.Lexicographic.{nat_list_eq_equiv}
use Rattle.std.specs.Str.{bytes_eq}
use Rattle.std.proofs.lemmas.Bool.{not_from_false}
use Rattle.std.proofs.lemmas.Option.{none-some, same_Some}
use Rattle.np_reading.proofs.LawfulLists.{AllPairs-from_later, later-filter, later-filter_map}
use Rattle.np_reading.proofs.LawfulNames.{AreNamedApart, items_apart}
use Rattle.np_reading.proofs.LawfulPods.{later-pods_from}
use Rattle.np_reading.proofs.LawfulPolicies.{later-admin_policies}
use Rattle.np_reading.specs.Prelude.{AdminPolicy, Item, Pod, ServiceItem, admin_policies_of, admin_policy_in, pods_of, service_in, services_of}
use Rattle.np_model.specs.Prelude.{AreNamesApart, ArePodsApart, AreServicesApart, are_apart}
use Rattle.np_items.specs.declared.item.Item.TheVariants as item
use Rattle.np_objects.specs.declared.object.Object.TheVariants as object
use Rattle.np_owners.specs.Prelude.{first_repeat, name_of_item, object_named}
use Rattle.np_policies.specs.declared.policy.Policy.TheVariants as policy

-- ---- pods

pub are_apart-from_items : (a b : Item) (kind namespace name namespace' name' : List ℕ) → bytes_eq kind kind ≡ true → name_of_item a ≡ object_named kind namespace name → name_of_item b ≡ object_named kind namespace' name' →
    AreNamedApart a b → are_apart namespace name namespace' name' ≡ true
are_apart-from_items a b kind namespace name namespace' name' same first second apart =
    not_from_false _ (rw same at (apart (record { kind = kind; namespace = namespace; name = name }) (record { kind = kind; namespace = namespace'; name = name' }) first second))

pub pods-apart : (items : List Item) → first_repeat items ≡ None → AllPairs ArePodsApart (filter (λ pod. pod.listed) (pods_of items))
pods-apart items nothing =
    AllPairs-from_later ArePodsApart (filter (λ pod. pod.listed) (pods_of items))
    (later-filter (λ pod. pod.listed) AreListedApart ArePodsApart (λ a b a_is b_is apart. apart a_is b_is) (pods_of items)
    (later-pods_from items AreNamedApart AreListedApart
    (λ one other a b a_of b_of apart a_is b_is. are_apart-from_items one other (codes "Pod") a.namespace a.name b.namespace b.name refl (a_of.listed a_is) (b_of.listed b_is) apart)
    0 items (items_apart items nothing)))
  where
    AreListedApart : Pod → Pod → Type 0
    AreListedApart a b = a.listed ≡ true → b.listed ≡ true → ArePodsApart a b

-- ---- services

name_of_service : (one : Item) (found : ServiceItem) → service_in one ≡ Some found → name_of_item one ≡ object_named (codes "Service") found.namespace found.name
name_of_service (item.Object (object.Service listed)) found is = ap (λ (s : ServiceItem). object_named (codes "Service") s.namespace s.name) (same_Some listed found is)
name_of_service (item.Object (object.Pod other)) found is = absurd (none-some found is)
name_of_service (item.Object (object.Controller other)) found is = absurd (none-some found is)
name_of_service (item.Object (object.Namespace other)) found is = absurd (none-some found is)
name_of_service (item.Object (object.Ingress other)) found is = absurd (none-some found is)
name_of_service (item.Object object.Other) found is = absurd (none-some found is)
name_of_service (item.Policy _) found is = absurd (none-some found is)

pub services-apart : (items : List Item) → first_repeat items ≡ None → AllPairs AreServicesApart (services_of items)
services-apart items nothing =
    AllPairs-from_later AreServicesApart (services_of items)
    (later-filter_map service_in AreNamedApart AreServicesApart
    (λ one other a b a_is b_is apart. are_apart-from_items one other (codes "Service") a.namespace a.name b.namespace b.name refl (name_of_service one a a_is) (name_of_service other b b_is) apart)
    items (items_apart items nothing))

-- ---- admin policies

pub name_of_admin : (one : Item) (found : AdminPolicy) → admin_policy_in one ≡ Some found → name_of_item one ≡ object_named (codes "AdminNetworkPolicy") [] found.name
name_of_admin (item.Policy (policy.Admin listed)) found is = ap (λ (p : AdminPolicy). object_named (codes "AdminNetworkPolicy") [] p.name) (same_Some listed found is)
name_of_admin (item.Policy (policy.Net other)) found is = absurd (none-some found is)
name_of_admin (item.Policy (policy.Base other)) found is = absurd (none-some found is)
name_of_admin (item.Object _) found is = absurd (none-some found is)

AreNamesApart-flips : (x y : AdminPolicy) → AreNamesApart x y → AreNamesApart y x
AreNamesApart-flips x y apart = rw (nat_list_eq_equiv.symm y.name x.name) apart

pub admin_policies-apart : (items : List Item) → first_repeat items ≡ None → AllPairs AreNamesApart (admin_policies_of items)
admin_policies-apart items nothing =
    AllPairs-from_later AreNamesApart (admin_policies_of items)
    (later-admin_policies AreNamesApart AreNamesApart-flips items
    (later-filter_map admin_policy_in AreNamedApart AreNamesApart
    (λ one other a b a_is b_is apart. are_apart-from_items one other (codes "AdminNetworkPolicy") [] a.name [] b.name refl (name_of_admin one a a_is) (name_of_admin other b b_is) apart)
    items (items_apart items nothing)))
