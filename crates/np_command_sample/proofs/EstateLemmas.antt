-- The estate of the items of the sample. For SampleLemmas.
use Rattle.std.proofs.Common.{◌≡◌, ℕ, zero, suc, ◌+◌, List, [], ◌∷◌, ◌++◌, length, map, Bool, false, Option, Some, None, refl, sym, ap, ◌∙◌, arith, append_assoc, length-append}
use Rattle.std.specs.List.{AllByRecursion, cons_option, filter_map, range_with_len, slice_get}
use Rattle.std.specs.Option.{option_and_then, option_map_or, option_to_list}
use Rattle.std.proofs.lemmas.List.Elements.{filter_map-append}
use Rattle.np_base.proofs.Lists.{count-none}
use Rattle.np_owners.specs.Prelude.{first_in_cycle, makes_pod, name_of_item, owner_of_item, owner_place, place_in_namespace, place_of, places_of_owners, up, ups}
use Rattle.np_owners.proofs.Owned.{owns_itself-none}
use Rattle.np_reading.specs.Prelude.{context, count_left_out, is_for, is_left_out, labels_in, left_out, listed_labels, listed_pod, name_label, named_or_itself, namespace_name, pod_at_item, pods_from}
use Rattle.np_command_sample.specs.Prelude.{Item, ObjectName, Pod}
use Rattle.np_reading.proofs.TopLemmas.{top_owner-pod}
use Rattle.np_items.specs.declared.item.Item.TheVariants as item
use Rattle.np_objects.specs.declared.object.Object.TheVariants as object
use Rattle.np_sample.specs.Prelude.{namespace_count}
use Rattle.np_command_sample.proofs.Items.{admin_policy_item, namespace_item, net_policy_item, pod_item, pod_read, sample_items}

-- ---- what a function gives of the items

pub gives_none : {Y : Type 0} (h : Item → Option Y) (f : ℕ → Item) → ((i : ℕ) → h (f i) ≡ None) → (a n : ℕ) → filter_map h (map f (range_with_len a n)) ≡ []
gives_none h f none a zero = refl
gives_none h f none a (suc n) = rw (none a) (gives_none h f none (a + 1) n)

pub gives_each : {Y : Type 0} (h : Item → Option Y) (f : ℕ → Item) (g : ℕ → Y) → ((i : ℕ) → h (f i) ≡ Some (g i)) → (a n : ℕ) → filter_map h (map f (range_with_len a n)) ≡ map g (range_with_len a n)
gives_each h f g some a zero = refl
gives_each h f g some a (suc n) = rw (some a, gives_each h f g some (a + 1) n) refl

-- by the four kinds of items
pub gives_parts : {Y : Type 0} (h : Item → Option Y) (n : ℕ) → filter_map h (sample_items n)
    ≡ filter_map h (map namespace_item (range_with_len 0 namespace_count)) ++ filter_map h (map pod_item (range_with_len 0 n)) ++ filter_map h (map net_policy_item (range_with_len 0 namespace_count))
    ++ filter_map h (admin_policy_item ∷ [])
gives_parts h n =
    let namespaces = map namespace_item (range_with_len 0 namespace_count) in
    let pods = map pod_item (range_with_len 0 n) in
    let policies = map net_policy_item (range_with_len 0 namespace_count) in
    filter_map-append h (namespaces ++ pods ++ policies) (admin_policy_item ∷ [])
    ∙ ap (λ front. front ++ filter_map h (admin_policy_item ∷ []))
    (filter_map-append h (namespaces ++ pods) policies ∙ ap (λ front. front ++ filter_map h policies) (filter_map-append h namespaces pods))

-- ---- chains of owners

none_in : (ups : List (Option ℕ)) → AllByRecursion (λ o. o ≡ None) ups → (place : ℕ) → up ups place ≡ None
none_in [] all place = refl
none_in (o ∷ ups) all zero = all.0
none_in (o ∷ ups) all (suc place) = none_in ups all.1 place

nothing_then : (o : Option ObjectName) → option_and_then {U = ℕ} (λ name. None) o ≡ None
nothing_then None = refl
nothing_then (Some name) = refl

no_owners : (items rest : List Item) → AllByRecursion (λ one. owner_of_item one ≡ None) rest → AllByRecursion (λ o. o ≡ None) (map (owner_place items) rest)
no_owners items [] all = tt
no_owners items (one ∷ rest) all =
    (ap (λ owner. option_and_then (place_in_namespace items owner) (name_of_item one)) all.0 ∙ nothing_then (name_of_item one), no_owners items rest all.1)

pub first_in_cycle-none : (items : List Item) → AllByRecursion (λ one. owner_of_item one ≡ None) items → first_in_cycle items ≡ None
first_in_cycle-none items all = rw (owns_itself-none (ups items) (none_in (ups items) (no_owners items items all)) (places_of_owners (ups items))) refl

-- ---- what is left out

passes_none : {L : Type 0} (is : L → Bool) (left : Item → Option L) (items : List Item) → AllByRecursion (λ one. left one ≡ None) items → (place : ℕ) →
    option_map_or is (option_and_then left (slice_get items place)) false ≡ false
passes_none is left [] all place = refl
passes_none is left (one ∷ items) all zero = rw all.0 refl
passes_none is left (one ∷ items) all (suc place) = passes_none is left items all.1 place

abbrev pub IsKept : Item → Type 0
IsKept one = (makes : Bool) → left_out makes one ≡ None

kept_by : (makes : Bool) (items : List Item) → AllByRecursion IsKept items → AllByRecursion (λ one. left_out makes one ≡ None) items
kept_by makes [] all = tt
kept_by makes (one ∷ items) all = (all.0 makes, kept_by makes items all.1)

pub count_left_out-none : (items : List Item) (why : _) → AllByRecursion IsKept items → count_left_out items why ≡ 0
count_left_out-none items why all =
    count-none (is_left_out items why) (λ k. passes_none (is_for why) (left_out (makes_pod items k)) items (kept_by (makes_pod items k) items all) k) 0 (range_with_len 0 (length items))

-- ---- pods

labels_at : (items : List Item) → AllByRecursion (λ one. labels_in (Some one) ≡ []) items → (place : ℕ) → labels_in (slice_get items place) ≡ []
labels_at [] all place = refl
labels_at (one ∷ items) all zero = all.0
labels_at (one ∷ items) all (suc place) = labels_at items all.1 place

no_labels : (items : List Item) → AllByRecursion (λ one. labels_in (Some one) ≡ []) items → (name : List ℕ) → listed_labels items name ≡ []
no_labels items all name = by (place_of items (namespace_name name))
  where
    by : (o : Option ℕ) → labels_in (option_and_then (slice_get items) o) ≡ []
    by None = refl
    by (Some place) = labels_at items all place

-- the pod that an item gives, where no controller owns it and no namespace has labels
abbrev pub gives_pod : Item → Option Pod
gives_pod (item.Object (object.Pod pod)) = Some (listed_pod pod (context (name_label pod.namespace ∷ []) (named_or_itself pod)))
gives_pod other = None

abbrev pub IsLone : List Item → Item → Type 0
IsLone items one = (place : ℕ) → slice_get items place ≡ Some one → pod_at_item items place one ≡ gives_pod one

pub pod_is_lone : (items : List Item) → AllByRecursion (λ one. labels_in (Some one) ≡ []) items → (i : ℕ) → IsLone items (pod_item i)
pod_is_lone items all i place at = rw (top_owner-pod items place (pod_read i) at refl, no_labels items all (pod_read i).namespace) refl

at_seam : (front : List Item) (one : Item) (rest : List Item) → slice_get (front ++ one ∷ rest) (length front) ≡ Some one
at_seam [] one rest = refl
at_seam (x ∷ front) one rest = at_seam front one rest

listed_first : (o : Option Pod) (pods : List Pod) → option_to_list o ++ pods ≡ cons_option o pods
listed_first None pods = refl
listed_first (Some pod) pods = refl

pub pods_from-lone : (items front rest : List Item) (place : ℕ) → items ≡ front ++ rest → length front ≡ place → AllByRecursion (IsLone items) rest →
    pods_from items place rest ≡ filter_map gives_pod rest
pods_from-lone items front [] place whole here all = refl
pods_from-lone items front (one ∷ rest) place whole here all =
    let at : slice_get items place ≡ Some one = rw (whole, ← here) (at_seam front one rest) in
    let next = pods_from-lone items (front ++ one ∷ []) rest (place + 1) (whole ∙ sym (append_assoc front (one ∷ []) rest)) (length-append front (one ∷ []) ∙ omega arith) all.1 in
    rw (all.0 place at, next) (listed_first (gives_pod one) (filter_map gives_pod rest))
