-- The pods of an estate are those of the items that were read. For `each_pod_stands_once`.
use Rattle.std.proofs.Common.{◌≡◌, ◌≢◌, ℕ, zero, suc, ◌+◌, ◌≤◌, List, [], ◌∷◌, ◌++◌, length, reverse, get_or, nat_lt, Bool, true, false, cond, not, ◌&&◌, ◌||◌, is_some, Option, Some, None, Ok, refl, sym, ap, subst, ◌∙◌, arith, add-zero, zero-add}
use Rattle.std.specs.Prelude.{codes, filter, find, option_to_list}
use Rattle.std.specs.List.{cons_option, filter_map, position, position_or_len, slice_get}
use Rattle.std.specs.Option.{option_and_then, option_flatten, option_map, option_map_or, option_or}
use Rattle.std.specs.Str.{bytes_eq}
use Rattle.std.specs.Cmp.Lexicographic.{bytes_decides}
use Rattle.std.proofs.lemmas.Bool.Decides.{nat_tests}
use Rattle.std.proofs.lemmas.List.{reverse-append}
use Rattle.std.proofs.lemmas.List.Folds.{find_at}
use Rattle.std.proofs.lemmas.List.Quantifiers.{position-Some}
use Rattle.std.proofs.lemmas.Option.{option_and_then_some, slice_get-get_or, slice_get-map, slice_get_past}
use Rattle.np_owners.specs.Prelude.{by_reference, chain, controller_place, is_item_named, last_of, last_owner, makes_pod, name_of_item, owner_named, owner_of_item, owner_place, place_in_namespace, place_of, same_name, top, top_owner, up, ups}
use Rattle.np_reading.proofs.LawfulNamespaces.{value_of-namespace_labels, HasNamespaceLabels}
use Rattle.np_reading.proofs.LawfulReading.{pods_have_namespace_labels}
use Rattle.np_reading.proofs.ReadingLemmas.{estate_of-passed}
use Rattle.np_meaning.specs.EachPod.{AreEach}
use Rattle.np_meaning.specs.Prelude.{ControllerItem, ControllerKind, CronJob, DaemonSet, Deployment, EstateLists, HoldsEachPod, IsListedPod, IsMadePod, Item, Job, NamespaceItem, ObjectName, OwnerRef, Pair, Pod, PodItem, ReplicaSet, ReplicationController, SaysNamespace, StatefulSet, Template, namespace_named, pod, takes_part, templated, templates_from}
use Rattle.np_reading.specs.Prelude.{context, context_of, estate_of, is_on_host, labels_in, listed_labels, made_pod, name_label, namespace_labels, namespace_name, pod_at_item, pod_of_item, pods_from, pods_of}
use Rattle.np_items.specs.Prelude.{items_of}
use Rattle.np_items.specs.declared.item.Item.TheVariants as item
use Rattle.np_labels.proofs.PairLists.{value_of-labels_of}
use Rattle.np_labels.specs.Prelude.{last_value_of, value_of}
use Rattle.np_objects.specs.Prelude.{is_controller_kind, kind_name}
use Rattle.np_objects.specs.declared.object.Object.TheVariants as object
use Rattle.np_model.specs.declared.owner.Owner.{Owner}
use Rattle.np_policies.specs.declared.policy.Policy.TheVariants as policy

-- ---- an item with a name has a top owner

-- the item at a place names an owner, or itself
abbrev names_one : List Item → ℕ → Bool
names_one items place = is_some (option_and_then last_owner (slice_get items place))

named-last : (name : ObjectName) (one : Item) → is_item_named name one ≡ true → is_some (last_owner one) ≡ true
named-last name one is = by (owner_of_item one) (name_of_item one) is
  where
    by : (owner : Option OwnerRef) (own : Option ObjectName) → option_map_or (same_name name) own false ≡ true → is_some (option_or (option_map by_reference owner) (option_map owner_named own)) ≡ true
    by (Some owner) own is = refl
    by None None is = cc
    by None (Some own) is = refl

placed-names_one : (items : List Item) (name : ObjectName) (place : ℕ) → place_of items name ≡ Some place → names_one items place ≡ true
placed-names_one [] name place is = cc
placed-names_one (one ∷ items) name place is =
    let found = position-Some (is_item_named name) (one ∷ items) place one is in
    rw (slice_get-get_or (one ∷ items) place one found.0) (named-last name (get_or (one ∷ items) place one) found.1)

owner-names_one : (items : List Item) (one : Item) (above : ℕ) → owner_place items one ≡ Some above → names_one items above ≡ true
owner-names_one items one above is =
    option_and_then_some (place_in_namespace items (owner_of_item one)) (name_of_item one) above is
    (λ name named found. option_and_then_some (controller_place items name.namespace) (owner_of_item one) above found
    (λ owner owned at. by name.namespace owner (is_controller_kind owner.kind) at))
  where
    by : (space : List ℕ) (owner : OwnerRef) (b : Bool) → cond b (place_of items (record { kind = owner.kind; namespace = space; name = owner.name })) None ≡ Some above → names_one items above ≡ true
    by space owner true found = placed-names_one items (record { kind = owner.kind; namespace = space; name = owner.name }) above found
    by space owner false found = cc

up-names_one : (items : List Item) (place above : ℕ) → up (ups items) place ≡ Some above → names_one items above ≡ true
up-names_one items place above is = by (slice_get items place) (sym (ap option_flatten (slice_get-map (owner_place items) items place)) ∙ is)
  where
    by : (found : Option Item) → option_flatten (option_map (owner_place items) found) ≡ Some above → names_one items above ≡ true
    by None at = cc
    by (Some one) at = owner-names_one items one above at

chain-names_one : (items : List Item) (steps place : ℕ) → names_one items place ≡ true → names_one items (last_of place (chain (ups items) steps place)) ≡ true
chain-names_one items zero place is = is
chain-names_one items (suc steps) place is = by (λ above over. chain-names_one items steps above (up-names_one items place above over)) (up (ups items) place) refl
  where
    by : ((above : ℕ) → up (ups items) place ≡ Some above → names_one items (last_of above (chain (ups items) steps above)) ≡ true) → (above : Option ℕ) → up (ups items) place ≡ above →
        names_one items (last_of place (option_map_or (λ above. above ∷ chain (ups items) steps above) above [])) ≡ true
    by further None over = is
    by further (Some above) over = further above over

-- what is there
there : {A : Type 0} (found : Option A) → is_some found ≡ true → (x : A) × (found ≡ Some x)
there None is = cc
there (Some x) is = (x, refl)

top_owner-there : (items : List Item) (place : ℕ) (one : Item) → slice_get items place ≡ Some one → is_some (last_owner one) ≡ true → (owner : Owner) × (top_owner items place ≡ Some owner)
top_owner-there items place one at is = there (top_owner items place) (chain-names_one items (length (ups items)) place (rw at is))

-- ---- pods

-- a pod that takes part
abbrev taken : Option PodItem → Option PodItem
taken None = None
taken (Some one) = cond (takes_part one) (Some one) None

-- what an item gives: a listed pod, a pod of a template, or nothing
abbrev Fits : Option PodItem → Option (ControllerItem × Template) → Option Pod → Type 0
Fits None None None = Unit {0}
Fits None None (Some end) = ⊥
Fits (Some one) None None = ⊥
Fits (Some one) None (Some end) = IsListedPod one end × (end.listed ≡ true)
Fits None (Some made) None = ⊥
Fits None (Some made) (Some end) = IsMadePod made end × (end.listed ≡ false)
Fits (Some one) (Some made) end = ⊥

nothing : (makes : Bool) → Fits None (cond makes None None) None
nothing true = tt
nothing false = tt

module _ (items : List Item) (place : ℕ) where
  pod-fits : (one : PodItem) → slice_get items place ≡ Some (item.Object (object.Pod one)) →
      Fits (taken (Some one)) (cond (makes_pod items place) None None) (pod_at_item items place (item.Object (object.Pod one)))
  pod-fits one at =
      let owner = top_owner-there items place (item.Object (object.Pod one)) at (itself one.owner) in
      let given : Option Owner → Option Pod = λ top. option_and_then (pod_of_item (item.Object (object.Pod one)))
      (cond (not (one.host_network || one.finished)) (context_of items (item.Object (object.Pod one)) top) None) in
      subst (λ (top : Option Owner). Fits (taken (Some one)) (cond (makes_pod items place) None None) (given top)) (sym owner.1)
      (by (namespace_labels items one.namespace) owner.0 one.host_network one.finished (makes_pod items place))
    where
      itself : (owner : Option OwnerRef) → is_some (option_or (option_map by_reference owner)
          (option_map owner_named (Some (record { kind = codes "Pod"; namespace = one.namespace; name = one.name })))) ≡ true
      itself None = refl
      itself (Some owner) = refl

      by : (around : List Pair) (top : Owner) (host finished makes : Bool) →
          Fits (cond (not host && not finished) (Some one) None) (cond makes None None)
          (option_and_then (pod_of_item (item.Object (object.Pod one))) (cond (not (host || finished)) (Some (context around top)) None))
      by around top true finished makes = nothing makes
      by around top false true makes = nothing makes
      by around top false false true = (record { namespace = refl; name = refl; labels = refl; ports = refl; addresses = refl }, refl)
      by around top false false false = (record { namespace = refl; name = refl; labels = refl; ports = refl; addresses = refl }, refl)

  controller-fits : (one : ControllerItem) → slice_get items place ≡ Some (item.Object (object.Controller one)) →
      Fits None (cond (makes_pod items place) (templated (item.Object (object.Controller one))) None) (pod_at_item items place (item.Object (object.Controller one)))
  controller-fits one at =
      let owner = top_owner-there items place (item.Object (object.Controller one)) at (itself one.owner) in
      let given : Option Owner → Option Pod = λ top. option_and_then (pod_of_item (item.Object (object.Controller one)))
      (cond (makes_pod items place && not (is_on_host one)) (context_of items (item.Object (object.Controller one)) top) None) in
      subst (λ (top : Option Owner). Fits None (cond (makes_pod items place) (templated (item.Object (object.Controller one))) None) (given top)) (sym owner.1)
      (by (namespace_labels items one.namespace) owner.0 (makes_pod items place) one.template)
    where
      itself : (owner : Option OwnerRef) → is_some (option_or (option_map by_reference owner)
          (option_map owner_named (Some (record { kind = kind_name one.kind; namespace = one.namespace; name = one.name })))) ≡ true
      itself None = refl
      itself (Some owner) = refl

      on_host : (around : List Pair) (top : Owner) (template : Template) (host : Bool) →
          Fits None (cond host None (Some (one, template))) (option_and_then (λ around. Some (made_pod one around template)) (cond (not host) (Some (context around top)) None))
      on_host around top template true = tt
      on_host around top template false = (record { namespace = refl; name = refl; labels = refl; ports = refl; addresses = refl }, refl)

      by : (around : List Pair) (top : Owner) (makes : Bool) (template : Option Template) →
          Fits None (cond makes (option_and_then (λ template. cond template.host_network None (Some (one, template))) template) None)
          (option_and_then (λ around. option_map (made_pod one around) template)
          (cond (makes && not (option_map_or (λ template. template.host_network) template false)) (Some (context around top)) None))
      by around top false template = tt
      by around top true None = tt
      by around top true (Some template) = on_host around top template template.host_network

  item-fits : (one : Item) → slice_get items place ≡ Some one → Fits (taken (pod one)) (cond (makes_pod items place) (templated one) None) (pod_at_item items place one)
  item-fits (item.Object (object.Pod one)) at = pod-fits one at
  item-fits (item.Object (object.Controller one)) at = controller-fits one at
  item-fits (item.Object (object.Namespace one)) at = nothing (makes_pod items place)
  item-fits (item.Object (object.Service one)) at = nothing (makes_pod items place)
  item-fits (item.Object (object.Ingress one)) at = nothing (makes_pod items place)
  item-fits (item.Object object.Other) at = nothing (makes_pod items place)
  item-fits (item.Policy one) at = nothing (makes_pod items place)

-- the pods that are listed, and those that templates make
abbrev listed_ends : List Pod → List Pod
listed_ends ends = filter (λ end. end.listed) ends

abbrev made_ends : List Pod → List Pod
made_ends ends = filter (λ end. not end.listed) ends

record HoldsBoth (listed : List PodItem) (made : List (ControllerItem × Template)) (ends : List Pod) : Type 0 where
  pub of_listed : AreEach IsListedPod listed (listed_ends ends)
  pub of_made : AreEach IsMadePod made (made_ends ends)

one_more : (one : Option PodItem) (made : Option (ControllerItem × Template)) (end : Option Pod) (ones : List PodItem) (mades : List (ControllerItem × Template)) (ends : List Pod) →
    Fits one made end → HoldsBoth ones mades ends → HoldsBoth (option_to_list one ++ ones) (option_to_list made ++ mades) (option_to_list end ++ ends)
one_more None None None ones mades ends fits rest = rest
one_more None None (Some end) ones mades ends fits rest = absurd fits
one_more (Some one) None None ones mades ends fits rest = absurd fits
one_more (Some one) None (Some end) ones mades ends fits rest = record {
  of_listed = subst (λ b. AreEach IsListedPod (one ∷ ones) (cond b (end ∷ listed_ends ends) (listed_ends ends))) (sym fits.1) (fits.0, rest.of_listed);
  of_made = subst (λ b. AreEach IsMadePod mades (cond (not b) (end ∷ made_ends ends) (made_ends ends))) (sym fits.1) rest.of_made;
}
one_more None (Some made) None ones mades ends fits rest = absurd fits
one_more None (Some made) (Some end) ones mades ends fits rest = record {
  of_listed = subst (λ b. AreEach IsListedPod ones (cond b (end ∷ listed_ends ends) (listed_ends ends))) (sym fits.1) rest.of_listed;
  of_made = subst (λ b. AreEach IsMadePod (made ∷ mades) (cond (not b) (end ∷ made_ends ends) (made_ends ends))) (sym fits.1) (fits.0, rest.of_made);
}
one_more (Some one) (Some made) end ones mades ends fits rest = absurd fits

taken-first : (one : Item) (rest : List Item) → filter takes_part (filter_map pod (one ∷ rest)) ≡ option_to_list (taken (pod one)) ++ filter takes_part (filter_map pod rest)
taken-first one rest = by (pod one)
  where
    by_part : (p : PodItem) (b : Bool) (others : List PodItem) → cond b (p ∷ others) others ≡ option_to_list (cond b (Some p) None) ++ others
    by_part p true others = refl
    by_part p false others = refl

    by : (o : Option PodItem) → filter takes_part (cons_option o (filter_map pod rest)) ≡ option_to_list (taken o) ++ filter takes_part (filter_map pod rest)
    by None = refl
    by (Some p) = by_part p (takes_part p) (filter takes_part (filter_map pod rest))

from-holds : (items : List Item) (place : ℕ) (rest : List Item) → ((k : ℕ) → slice_get items (place + k) ≡ slice_get rest k) →
    HoldsBoth (filter takes_part (filter_map pod rest)) (templates_from items place rest) (pods_from items place rest)
from-holds items place [] at = record { of_listed = tt; of_made = tt }
from-holds items place (one ∷ rest) at =
    let here : slice_get items place ≡ Some one = ap (slice_get items) (sym (add-zero place)) ∙ at 0 in
    let others = from-holds items (place + 1) rest (λ k. let next : place + 1 + k ≡ place + suc k = omega arith in ap (slice_get items) next ∙ at (suc k)) in
    subst (λ ones. HoldsBoth ones (templates_from items place (one ∷ rest)) (pods_from items place (one ∷ rest))) (sym (taken-first one rest))
    (one_more (taken (pod one)) (cond (makes_pod items place) (templated one) None) (pod_at_item items place one) (filter takes_part (filter_map pod rest)) (templates_from items (place + 1) rest)
    (pods_from items (place + 1) rest) (item-fits items place one here) others)

-- ---- namespaces

found_at : {X : Type 0} (test : X → Bool) (xs : List X) → option_and_then (slice_get xs) (position test xs) ≡ find test xs
found_at test xs = by (nat_lt (position_or_len test xs) (length xs)) refl
  where
    by : (b : Bool) → nat_lt (position_or_len test xs) (length xs) ≡ b → option_and_then (slice_get xs) (cond b (Some (position_or_len test xs)) None) ≡ find test xs
    by true within = sym (find_at test xs)
    by false past =
        let over : length xs ≤ position_or_len test xs = grind (arith, nat_tests) in
        sym (find_at test xs ∙ slice_get_past xs (position_or_len test xs) over)

abbrev labels_found : Option NamespaceItem → List Pair
labels_found found = option_map_or (λ one. one.labels) found []

no_namespace : (kind : ControllerKind) → bytes_eq (codes "Namespace") (kind_name kind) ≡ false
no_namespace Deployment = refl
no_namespace ReplicaSet = refl
no_namespace StatefulSet = refl
no_namespace DaemonSet = refl
no_namespace ReplicationController = refl
no_namespace Job = refl
no_namespace CronJob = refl

labels_in-found : (name : List ℕ) (items : List Item) → labels_in (find (is_item_named (namespace_name name)) items) ≡ labels_found (namespace_named items name)
labels_in-found name [] = refl
labels_in-found name (item.Object (object.Namespace one) ∷ rest) = by (bytes_eq name one.name) (labels_in-found name rest)
  where
    by : (b : Bool) → labels_in (find (is_item_named (namespace_name name)) rest) ≡ labels_found (namespace_named rest name) →
        labels_in (cond b (Some (item.Object (object.Namespace one))) (find (is_item_named (namespace_name name)) rest)) ≡ labels_found (cond b (Some one) (namespace_named rest name))
    by true others = refl
    by false others = others
labels_in-found name (item.Object (object.Pod one) ∷ rest) = labels_in-found name rest
labels_in-found name (item.Object (object.Controller one) ∷ rest) = rw (no_namespace one.kind) (labels_in-found name rest)
labels_in-found name (item.Object (object.Service one) ∷ rest) = labels_in-found name rest
labels_in-found name (item.Object (object.Ingress one) ∷ rest) = labels_in-found name rest
labels_in-found name (item.Object object.Other ∷ rest) = labels_in-found name rest
labels_in-found name (item.Policy (policy.Net one) ∷ rest) = labels_in-found name rest
labels_in-found name (item.Policy (policy.Admin one) ∷ rest) = labels_in-found name rest
labels_in-found name (item.Policy (policy.Base one) ∷ rest) = labels_in-found name rest

listed_labels-found : (items : List Item) (name : List ℕ) → listed_labels items name ≡ labels_found (namespace_named items name)
listed_labels-found items name = ap labels_in (found_at (is_item_named (namespace_name name)) items) ∙ labels_in-found name items

other_label : (items : List Item) (name key : List ℕ) → key ≢ codes "kubernetes.io/metadata.name" →
    value_of (namespace_labels items name) key ≡ option_and_then (λ one. last_value_of one.labels key) (namespace_named items name)
other_label items name key other =
    value_of-labels_of (listed_labels items name ++ name_label name ∷ []) key
    ∙ ap (λ (pairs : List Pair). value_of pairs key) (reverse-append (listed_labels items name) (name_label name ∷ []))
    ∙ by_key (bytes_eq (codes "kubernetes.io/metadata.name") key) refl
    ∙ ap (λ (pairs : List Pair). last_value_of pairs key) (listed_labels-found items name)
    ∙ by (namespace_named items name)
  where
    by_key : (b : Bool) → bytes_eq (codes "kubernetes.io/metadata.name") key ≡ b → cond b (Some name) (value_of (reverse (listed_labels items name)) key) ≡ last_value_of (listed_labels items name) key
    by_key true same = absurd (other (sym ((bytes_decides (codes "kubernetes.io/metadata.name") key).0 same)))
    by_key false apart = refl

    by : (found : Option NamespaceItem) → last_value_of (labels_found found) key ≡ option_and_then (λ one. last_value_of one.labels key) found
    by None = refl
    by (Some one) = refl

says_namespace : (items : List Item) (end : Pod) → HasNamespaceLabels items end → SaysNamespace items end
says_namespace items end has = record {
  name = ap (λ (labels : List Pair). value_of labels (codes "kubernetes.io/metadata.name")) has ∙ value_of-namespace_labels items end.namespace;
  others = λ key other. ap (λ (labels : List Pair). value_of labels key) has ∙ other_label items end.namespace key other;
}

-- ---- all of it

pub each_pod : (texts : List (List ℕ)) (items : List Item) (lists : EstateLists) → items_of texts ≡ Ok items → estate_of texts ≡ Ok lists → HoldsEachPod items lists
each_pod texts items lists read is =
    let passed = estate_of-passed texts items lists read is in
    let both = from-holds items 0 items (λ k. ap (slice_get items) (zero-add k)) in
    subst (HoldsEachPod items) passed.2 (record {
      listed = both.of_listed;
      made = both.of_made;
      namespaces = λ k d below. says_namespace items (get_or (pods_of items) k d) (pods_have_namespace_labels items k d below);
    })
