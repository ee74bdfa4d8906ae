-- Every estate that is read is lawful. For `read_estate`, `read_estates_are_lawful` and crates above.
use Rattle.std.proofs.Common.{◌≡◌, ℕ, ◌+◌, ◌≤◌, List, [], ◌∷◌, ◌++◌, length, get_or, Option, Some, None, arith}
use Rattle.std.specs.Prelude.{All, ⊤}
use Rattle.std.specs.List.{AllByRecursion}
use Rattle.std.proofs.lemmas.Bool.{lt-ltb}
use Rattle.std.proofs.lemmas.List.Elements.{All-from_recursion}
use Rattle.np_base.proofs.Each.{All-weaker}
use Rattle.np_reading.proofs.LawfulApart.{admin_policies-apart, pods-apart, services-apart}
use Rattle.np_reading.proofs.LawfulLists.{AllLater, AllPairs-from_later, length-filter_map-le}
use Rattle.np_reading.proofs.LawfulNamespaces.{AgreeOnNamespace-from_labels, HasNamespaceLabels, SaysItsNamespace-from_labels}
use Rattle.np_reading.proofs.LawfulPods.{all-pods_from, length-pods_from-le}
use Rattle.np_reading.proofs.LawfulPolicies.{admin_policies-ascend, length-admin_policies-le, length-net_policies-le, net_policies-ascend}
use Rattle.np_reading.proofs.LawfulWell.{estate_of_items-well}
use Rattle.np_reading.specs.Prelude.{IngressItem, Item, estate_of_items, ingress_in, ingresses_from, ingresses_of, placed, pods_of, service_in}
use Rattle.np_model.specs.Prelude.{IsEarlierItem, IsFew, IsLawful}
use Rattle.np_items.specs.Prelude.{IsWellItem}
use Rattle.np_owners.specs.Prelude.{first_repeat}

-- ---- ingresses

length-ingresses_from-le : (number : ℕ) (items : List Item) → length (ingresses_from number items) ≤ length items
length-ingresses_from-le number [] = omega arith
length-ingresses_from-le number (one ∷ items) = by (ingress_in one) (length-ingresses_from-le (number + 1) items)
  where
    by : (o : Option IngressItem) → length (ingresses_from (number + 1) items) ≤ length items → length (placed number o ++ ingresses_from (number + 1) items) ≤ length (one ∷ items)
    by None rest = omega arith
    by (Some found) rest = omega arith

-- each ingress's item has the number of the first or a later one
ingresses_from-above : (number : ℕ) (items : List Item) → AllByRecursion (λ found. number ≤ found.item) (ingresses_from number items)
ingresses_from-above number [] = tt
ingresses_from-above number (one ∷ items) =
    by (ingress_in one) (All-weaker (λ found. number + 1 ≤ found.item) (λ found. number ≤ found.item) (λ found above. omega (arith, above)) (ingresses_from (number + 1) items)
    (ingresses_from-above (number + 1) items))
  where
    by : (o : Option IngressItem) → AllByRecursion (λ found. number ≤ found.item) (ingresses_from (number + 1) items) →
        AllByRecursion (λ found. number ≤ found.item) (placed number o ++ ingresses_from (number + 1) items)
    by None rest = rest
    by (Some found) rest = (omega arith, rest)

ingresses_from-ascend : (number : ℕ) (items : List Item) → AllLater IsEarlierItem (ingresses_from number items)
ingresses_from-ascend number [] = tt
ingresses_from-ascend number (one ∷ items) = by (ingress_in one) (ingresses_from-ascend (number + 1) items)
  where
    by : (o : Option IngressItem) → AllLater IsEarlierItem (ingresses_from (number + 1) items) → AllLater IsEarlierItem (placed number o ++ ingresses_from (number + 1) items)
    by None rest = rest
    by (Some found) rest = (
      All-weaker (λ later. number + 1 ≤ later.item) (IsEarlierItem (record { item = number; ingress = found })) (λ later above. lt-ltb number later.item (omega (arith, above)))
          (ingresses_from (number + 1) items) (ingresses_from-above (number + 1) items),
      rest,
    )

-- ---- namespaces

pub pods_have_namespace_labels : (items : List Item) → All (HasNamespaceLabels items) (pods_of items)
pods_have_namespace_labels items =
    All-from_recursion (HasNamespaceLabels items) (pods_of items) (all-pods_from items (λ one. ⊤) (HasNamespaceLabels items) (λ one pod of _. of.labels) 0 items (any items))
  where
    any : (rest : List Item) → AllByRecursion (λ one. ⊤) rest
    any [] = tt
    any (one ∷ rest) = (tt, any rest)

-- ---- all of it

estate_of_items-few : (items : List Item) → length items ≤ 20000 → IsFew (estate_of_items items)
estate_of_items-few items few = record {
  pods = omega (arith, length-pods_from-le items 0 items);
  net_policies = omega (arith, length-net_policies-le items);
  admin_policies = omega (arith, length-admin_policies-le items);
  services = omega (arith, length-filter_map-le service_in items);
  ingresses = omega (arith, length-ingresses_from-le 1 items);
}

pub estate_of_items-lawful : (items : List Item) → length items ≤ 20000 → All IsWellItem items → first_repeat items ≡ None → IsLawful (estate_of_items items)
estate_of_items-lawful items few all apart = record {
  few = estate_of_items-few items few;
  pods_apart = pods-apart items apart;
  namespaces_agree = λ i j d before below.
      AgreeOnNamespace-from_labels items (get_or (pods_of items) i d) (get_or (pods_of items) j d) (pods_have_namespace_labels items i d (omega arith)) (pods_have_namespace_labels items j d below);
  namespaces_named = λ k d below. SaysItsNamespace-from_labels items (get_or (pods_of items) k d) (pods_have_namespace_labels items k d below);
  net_policies_ascend = net_policies-ascend items;
  admin_policies_ascend = admin_policies-ascend items;
  admin_policies_apart = admin_policies-apart items apart;
  services_apart = services-apart items apart;
  ingresses_ascend = AllPairs-from_later IsEarlierItem (ingresses_of items) (ingresses_from-ascend 1 items);
  well = estate_of_items-well items all;
}
