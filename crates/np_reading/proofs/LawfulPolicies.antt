-- Policies that are read stand in their order. For `read_estate` and crates above.
use Rattle.std.proofs.Common.{◌≡◌, ℕ, ◌≤◌, List, [], ◌∷◌, length, true, Ordering, Less, Equal, Greater, refl, sym, ap, ◌∙◌, arith}
use Rattle.std.specs.Prelude.{AllPairs, fold}
use Rattle.std.specs.Cmp.{IsTotalOrder}
use Rattle.std.specs.List.{AllByRecursion, filter_map}
use Rattle.std.specs.List.Sorted.{IsStrictlySortedBy}
use Rattle.std.specs.Ordering.{nat_cmp, is_eq, ordering_then}
use Rattle.std.proofs.lemmas.Bool.{and_from, lt-ltb}
use Rattle.std.proofs.lemmas.Cmp.{nat_cmp_total, nat_list_cmp_total, on_total, then_total, ranked}
use Rattle.std.proofs.lemmas.List.{length-map}
use Rattle.np_reading.proofs.LawfulEntries.{length-with_values-le, all-with_values, sorted_values, later-with_values, Less-from_sorted_keys}
use Rattle.np_reading.proofs.LawfulLists.{AllLater, length-filter_map-le}
use Rattle.np_model.specs.Prelude.{HasAscendingPriorities, PolicyStandsBefore, ascends, decides_before}
use Rattle.np_reading.specs.Prelude.{AdminPolicy, Item, NetPolicy, ObjectName, admin_policies_of, admin_policy_in, net_name, net_policies_of, net_policy_in, with_admin, with_net}
use Rattle.np_owners.proofs.PlaceLemmas.{is_eq-compare_names, equal_names}
use Rattle.np_owners.specs.Prelude.{compare_names}

-- ---- orders

compare_names-total : IsTotalOrder compare_names
compare_names-total = then_total (on_total (λ n. n.kind) nat_list_cmp_total) (then_total (on_total (λ n. n.namespace) nat_list_cmp_total) (on_total (λ n. n.name) nat_list_cmp_total))

pub compare_names-exact : (a b : ObjectName) → compare_names a b ≡ Equal → a ≡ b
compare_names-exact a b is = equal_names a b (sym (is_eq-compare_names a b) ∙ ap is_eq is)

pub nat_cmp-exact : (a b : ℕ) → nat_cmp a b ≡ Equal → a ≡ b
nat_cmp-exact a b is = ranked a b Equal (sym is)

-- ---- NetworkPolicies

before-from_Less : (first second : Ordering) → ordering_then first second ≡ Less → decides_before first second ≡ true
before-from_Less Less second is = refl
before-from_Less Equal Less is = refl
before-from_Less Equal Equal is = cc
before-from_Less Equal Greater is = cc
before-from_Less Greater second is = cc

pub length-net_policies-le : (items : List Item) → length (net_policies_of items) ≤ length items
length-net_policies-le items =
    rw (length-map (fold with_net [] (filter_map net_policy_in items)) (λ entry. entry.1)) (omega
    (arith, length-with_values-le compare_names-total compare_names-exact net_name [] (filter_map net_policy_in items), length-filter_map-le net_policy_in items))

pub net_policies-ascend : (items : List Item) → AllPairs PolicyStandsBefore (net_policies_of items)
net_policies-ascend items i j d before below =
    before-from_Less _ _ (Less-from_sorted_keys compare_names net_name (net_policies_of items)
    (sorted_values compare_names-total compare_names-exact net_name (filter_map net_policy_in items)) i j d before below)

pub all-net_policies : (P : NetPolicy → Type 0) (items : List Item) → AllByRecursion P (filter_map net_policy_in items) → AllByRecursion P (net_policies_of items)
all-net_policies P items all = all-with_values compare_names-total compare_names-exact net_name P [] (filter_map net_policy_in items) tt all

-- ---- admin policies

ascends-from_sorted : (ns : List ℕ) → IsStrictlySortedBy nat_cmp ns → ascends ns ≡ true
unfolding IsStrictlySortedBy
ascends-from_sorted [] sorted = refl
ascends-from_sorted (n ∷ []) sorted = refl
ascends-from_sorted (n ∷ next ∷ ns) sorted =
    and_from _ _ (lt-ltb n next (ranked n next Less (sym sorted.0.0))) (ascends-from_sorted (next ∷ ns) sorted.1)

pub length-admin_policies-le : (items : List Item) → length (admin_policies_of items) ≤ length items
length-admin_policies-le items =
    rw (length-map (fold with_admin [] (filter_map admin_policy_in items)) (λ entry. entry.1))
    (omega (arith, length-with_values-le nat_cmp_total nat_cmp-exact (λ admin. admin.priority) [] (filter_map admin_policy_in items), length-filter_map-le admin_policy_in items))

pub admin_policies-ascend : (items : List Item) → HasAscendingPriorities (admin_policies_of items)
admin_policies-ascend items = ascends-from_sorted _ (sorted_values nat_cmp_total nat_cmp-exact (λ admin. admin.priority) (filter_map admin_policy_in items))

pub all-admin_policies : (P : AdminPolicy → Type 0) (items : List Item) → AllByRecursion P (filter_map admin_policy_in items) → AllByRecursion P (admin_policies_of items)
all-admin_policies P items all = all-with_values nat_cmp_total nat_cmp-exact (λ admin. admin.priority) P [] (filter_map admin_policy_in items) tt all

pub later-admin_policies : (S : AdminPolicy → AdminPolicy → Type 0) → ((x y : AdminPolicy) → S x y → S y x) → (items : List Item) → AllLater S (filter_map admin_policy_in items) →
    AllLater S (admin_policies_of items)
later-admin_policies S flips items all = later-with_values nat_cmp_total nat_cmp-exact (λ admin. admin.priority) S flips [] (filter_map admin_policy_in items) tt
    (none (filter_map admin_policy_in items)) all
  where
    none : (xs : List AdminPolicy) → AllByRecursion (λ x. AllByRecursion (S x) []) xs
    none [] = tt
    none (x ∷ xs) = (tt, none xs)
