-- Each policy, Service and Ingress among items stands once in their estate. For `each_policy_and_service_stands_once` and crates above.
use Rattle.std.proofs.Common.{◌≡◌, ◌≢◌, ℕ, suc, ◌+◌, ◌-◌, ◌≤◌, List, [], ◌∷◌, ◌++◌, map, true, Option, Some, None, Ok, refl, ap, subst, arith}
use Rattle.std.specs.Prelude.{codes, AllPairs, IsPermutation, option_to_list}
use Rattle.std.specs.Cmp.Lexicographic.{bytes_decides}
use Rattle.std.specs.List.{AllByRecursion, filter_map, cons_option, slice_get}
use Rattle.std.specs.Option.{option_and_then}
use Rattle.std.specs.Str.{bytes_eq}
use Rattle.std.proofs.lemmas.List.{map-id}
use Rattle.std.proofs.lemmas.List.Elements.{All-from_recursion}
use Rattle.std.proofs.lemmas.Option.{none-some, same_Some}
use Rattle.np_base.proofs.Each.{All-weaker}
use Rattle.np_reading.proofs.KeptEntries.{values-kept}
use Rattle.np_reading.proofs.LawfulApart.{are_apart-from_items, name_of_admin}
use Rattle.np_reading.proofs.LawfulLists.{AllLater, AllPairs-from_later, later-filter_map, later-map}
use Rattle.np_reading.proofs.LawfulNames.{AreNamedApart, items_apart}
use Rattle.np_reading.proofs.LawfulPolicies.{compare_names-exact, nat_cmp-exact}
use Rattle.np_reading.proofs.PriorityLemmas.{priorities-apart}
use Rattle.np_reading.proofs.ReadingLemmas.{estate_of-passed}
use Rattle.np_reading.specs.Prelude.{AdminPolicy, BasePolicy, EstateLists, HoldsEachOnce, IngressItem, IsOfItsItem, Item, NetPolicy, ObjectName, PlacedIngress, Rank, admin_policies_of, admin_policy_in, base_policy_in, estate_of, first_equal, first_item, ingress_in, ingresses_from, ingresses_of, net_name, net_policies_of, net_policy_in, placed, rank_of, ranks_of}
use Rattle.np_model.specs.Prelude.{are_apart}
use Rattle.np_items.specs.Prelude.{items_of}
use Rattle.np_items.specs.declared.item.Item.TheVariants as item
use Rattle.np_owners.specs.Prelude.{first_repeat, name_of_item, object_named}
use Rattle.np_policies.specs.declared.policy.Policy.TheVariants as policy

-- names that are apart are not the same
differ : (namespace name namespace' name' : List ℕ) → are_apart namespace name namespace' name' ≡ true → namespace ≡ namespace' → name ≡ name' → ⊥
differ namespace name namespace' name' apart namespaces names =
    let itself : are_apart namespace' name' namespace' name' ≡ true = rw (namespaces, names) at apart in
    let so : bytes_eq namespace' namespace' ≡ true = (bytes_decides namespace' namespace').1 refl in
    let too : bytes_eq name' name' ≡ true = (bytes_decides name' name').1 refl in
    let never = rw (so, too) at itself in cc

module _ (items : List Item) (nothing : first_repeat items ≡ None) where
  -- ---- NetworkPolicies

  name_of_net : (one : Item) (found : NetPolicy) → net_policy_in one ≡ Some found → name_of_item one ≡ object_named (codes "NetworkPolicy") found.namespace found.name
  name_of_net (item.Policy (policy.Net listed)) found is = ap (λ (p : NetPolicy). object_named (codes "NetworkPolicy") p.namespace p.name) (same_Some listed found is)
  name_of_net (item.Policy (policy.Admin other)) found is = absurd (none-some found is)
  name_of_net (item.Policy (policy.Base other)) found is = absurd (none-some found is)
  name_of_net (item.Object _) found is = absurd (none-some found is)

  nets-apart : AllPairs (λ a b. a ≢ b) (map net_name (filter_map net_policy_in items))
  nets-apart =
      AllPairs-from_later (λ a b. a ≢ b) (map net_name (filter_map net_policy_in items))
      (later-map net_name (λ a b. a ≢ b) (filter_map net_policy_in items)
      (later-filter_map net_policy_in AreNamedApart (λ a b. net_name a ≢ net_name b)
      (λ one other a b a_is b_is apart same.
      differ a.namespace a.name b.namespace b.name
      (are_apart-from_items one other (codes "NetworkPolicy") a.namespace a.name b.namespace b.name refl (name_of_net one a a_is) (name_of_net other b b_is) apart)
      (ap (λ (n : ObjectName). n.namespace) same) (ap (λ (n : ObjectName). n.name) same))
      items (items_apart items nothing)))

  pub net_policies-once : IsPermutation (filter_map net_policy_in items) (net_policies_of items)
  net_policies-once =
      subst (λ (nets : List NetPolicy). IsPermutation nets (net_policies_of items)) (map-id (filter_map net_policy_in items))
      (values-kept compare_names-exact net_name (λ net. net) (filter_map net_policy_in items) nets-apart)

  -- ---- admin policies

  ranks-apart : AllPairs (λ a b. a ≢ b) (map rank_of (filter_map admin_policy_in items))
  ranks-apart =
      AllPairs-from_later (λ a b. a ≢ b) (map rank_of (filter_map admin_policy_in items))
      (later-map rank_of (λ a b. a ≢ b) (filter_map admin_policy_in items)
      (later-filter_map admin_policy_in AreNamedApart (λ a b. rank_of a ≢ rank_of b)
      (λ one other a b a_is b_is apart same.
      differ [] a.name [] b.name
      (are_apart-from_items one other (codes "AdminNetworkPolicy") [] a.name [] b.name refl (name_of_admin one a a_is) (name_of_admin other b b_is) apart)
      refl (ap (λ (r : Rank). r.name) same))
      items (items_apart items nothing)))

  pub admin_policies-once : first_equal (ranks_of items) ≡ None → IsPermutation (filter_map admin_policy_in items) (admin_policies_of items)
  admin_policies-once none =
      subst (λ (admins : List AdminPolicy). IsPermutation admins (admin_policies_of items)) (map-id (filter_map admin_policy_in items))
      (values-kept nat_cmp-exact (λ admin. admin.priority) (λ admin. admin) (filter_map admin_policy_in items) (priorities-apart (filter_map admin_policy_in items) ranks-apart none))

  -- ---- the baseline

  name_of_base : (one : Item) (found : BasePolicy) → base_policy_in one ≡ Some found → name_of_item one ≡ object_named (codes "BaselineAdminNetworkPolicy") [] (codes "default")
  name_of_base (item.Policy (policy.Base listed)) found is = refl
  name_of_base (item.Policy (policy.Net other)) found is = absurd (none-some found is)
  name_of_base (item.Policy (policy.Admin other)) found is = absurd (none-some found is)
  name_of_base (item.Object _) found is = absurd (none-some found is)

  at_most_one : (bases : List BasePolicy) → AllLater (λ a b. ⊥) bases → option_to_list (first_item bases) ≡ bases
  at_most_one [] all = refl
  at_most_one (base ∷ []) all = refl
  at_most_one (base ∷ other ∷ bases) all = absurd all.0.0

  pub baseline-once : option_to_list (first_item (filter_map base_policy_in items)) ≡ filter_map base_policy_in items
  baseline-once =
      at_most_one (filter_map base_policy_in items)
      (later-filter_map base_policy_in AreNamedApart (λ a b. ⊥)
      (λ one other a b a_is b_is apart.
      differ [] (codes "default") [] (codes "default")
      (are_apart-from_items one other (codes "BaselineAdminNetworkPolicy") [] (codes "default") [] (codes "default") refl (name_of_base one a a_is) (name_of_base other b b_is) apart)
      refl refl)
      items (items_apart items nothing))

-- ---- ingresses

ingresses-once : (number : ℕ) (items : List Item) → map (λ found. found.ingress) (ingresses_from number items) ≡ filter_map ingress_in items
ingresses-once number [] = refl
ingresses-once number (one ∷ items) = by (ingress_in one) (ingresses-once (number + 1) items)
  where
    by : (o : Option IngressItem) → map (λ (p : PlacedIngress). p.ingress) (ingresses_from (number + 1) items) ≡ filter_map ingress_in items →
        map (λ (p : PlacedIngress). p.ingress) (placed number o ++ ingresses_from (number + 1) items) ≡ cons_option o (filter_map ingress_in items)
    by None rest = rest
    by (Some found) rest = ap (λ (others : List IngressItem). found ∷ others) rest

-- an ingress is that of its item, where the first has that number
abbrev IsOfItem : ℕ → List Item → PlacedIngress → Type 0
IsOfItem number items one = (number ≤ one.item) × (option_and_then ingress_in (slice_get items (one.item - number)) ≡ Some one.ingress)

ingresses-numbered : (number : ℕ) (items : List Item) → AllByRecursion (IsOfItem number items) (ingresses_from number items)
ingresses-numbered number [] = tt
ingresses-numbered number (one ∷ items) =
    by (ingress_in one) refl (All-weaker (IsOfItem (number + 1) items) (IsOfItem number (one ∷ items)) further (ingresses_from (number + 1) items) (ingresses-numbered (number + 1) items))
  where
    further : (found : PlacedIngress) → IsOfItem (number + 1) items found → IsOfItem number (one ∷ items) found
    further found of =
        let past : found.item - number ≡ suc (found.item - (number + 1)) = omega (arith, of.0) in
        (omega (arith, of.0), rw past of.1)

    by : (o : Option IngressItem) → ingress_in one ≡ o → AllByRecursion (IsOfItem number (one ∷ items)) (ingresses_from (number + 1) items) →
        AllByRecursion (IsOfItem number (one ∷ items)) (placed number o ++ ingresses_from (number + 1) items)
    by None is rest = rest
    by (Some found) is rest =
        let none : number - number ≡ 0 = omega arith in
        ((omega arith, rw none is), rest)

-- ---- all of it

pub each_once : (texts : List (List ℕ)) (items : List Item) (lists : EstateLists) → items_of texts ≡ Ok items → estate_of texts ≡ Ok lists → HoldsEachOnce items lists
each_once texts items lists read is =
    let passed = estate_of-passed texts items lists read is in
    subst (HoldsEachOnce items) passed.2 (record {
      net_policies = net_policies-once items passed.0;
      admin_policies = admin_policies-once items passed.0 passed.1;
      baseline = baseline-once items passed.0;
      services = refl;
      ingresses = ingresses-once 1 items;
      ingresses_numbered = All-from_recursion (IsOfItsItem items) (ingresses_of items)
          (All-weaker (IsOfItem 1 items) (IsOfItsItem items) (λ found of. of.1) (ingresses_of items) (ingresses-numbered 1 items));
    })
