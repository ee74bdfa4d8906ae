-- Pods have the labels of their namespaces, which say the namespaces' names. For LawfulOwners, LawfulReading and 2 more.
use Rattle.std.proofs.Common.{◌≡◌, ℕ, List, [], ◌∷◌, ◌++◌, length, true, ◌&&◌, ◌==◌, not, Option, Some, None, fold, refl, sym, ap, subst, ◌∙◌}
use Rattle.std.specs.Prelude.{codes, All}
use Rattle.std.specs.List.{slice_get}
use Rattle.std.specs.Option.{option_and_then}
use Rattle.std.proofs.lemmas.Bool.{and_from, and_parts}
use Rattle.std.proofs.lemmas.List.{reverse-append}
use Rattle.std.proofs.lemmas.List.Folds.{list_all-append}
use Rattle.std.proofs.lemmas.Option.{slice_get_within, get_or_from_slice_get}
use Rattle.np_model.specs.Prelude.{AgreeOnNamespace, SaysItsNamespace, has_slash, is_name, is_well_label, is_well_labels, is_word}
use Rattle.np_reading.specs.Prelude.{Item, Pair, Pod, labels_in, listed_labels, name_label, namespace_labels, namespace_name}
use Rattle.np_items.specs.Prelude.{IsWellItem}
use Rattle.np_items.specs.declared.item.Item.TheVariants as item
use Rattle.np_labels.proofs.PairLists.{value_of-labels_of}
use Rattle.np_labels.specs.Prelude.{value_of, with_pair}
use Rattle.np_objects.proofs.WellLemmas.{with_pair-well}
use Rattle.np_objects.specs.declared.object.Object.TheVariants as object
use Rattle.np_owners.specs.Prelude.{place_of}

-- ---- the label that says the name

-- it is the last pair with its key
pub value_of-namespace_labels : (items : List Item) (name : List ℕ) → value_of (namespace_labels items name) (codes "kubernetes.io/metadata.name") ≡ Some name
value_of-namespace_labels items name =
    value_of-labels_of (listed_labels items name ++ name_label name ∷ []) (codes "kubernetes.io/metadata.name")
    ∙ rw (reverse-append (listed_labels items name) (name_label name ∷ [])) refl

-- a pod has the labels of its namespace
abbrev pub HasNamespaceLabels : List Item → Pod → Type 0
HasNamespaceLabels items pod = pod.namespace_labels ≡ namespace_labels items pod.namespace

pub AgreeOnNamespace-from_labels : (items : List Item) (a b : Pod) → HasNamespaceLabels items a → HasNamespaceLabels items b → AgreeOnNamespace a b
AgreeOnNamespace-from_labels items a b a_has b_has same = a_has ∙ ap (namespace_labels items) same ∙ sym b_has

pub SaysItsNamespace-from_labels : (items : List Item) (pod : Pod) → HasNamespaceLabels items pod → SaysItsNamespace pod
SaysItsNamespace-from_labels items pod has = rw has (value_of-namespace_labels items pod.namespace)

-- ---- well formed labels

-- the item at a place is well formed
pub well_at : (items : List Item) → All IsWellItem items → (place : ℕ) (one : Item) → slice_get items place ≡ Some one → IsWellItem one
well_at items all place one at =
    subst IsWellItem (get_or_from_slice_get items place one one at) (all place one (slice_get_within items place one at))

fold-well : (made pairs : List Pair) → is_well_labels made ≡ true → is_well_labels pairs ≡ true → is_well_labels (fold with_pair made pairs) ≡ true
fold-well made [] is all = is
fold-well made (pair ∷ pairs) is all =
    let parts = and_parts (is_well_label pair) (is_well_labels pairs) all in
    fold-well (with_pair made pair) pairs (with_pair-well made pair is parts.0) parts.1

labels_in-well : (one : Item) → IsWellItem one → is_well_labels (labels_in (Some one)) ≡ true
labels_in-well (item.Object (object.Namespace namespace)) is = (and_parts (is_name namespace.name) (is_well_labels namespace.labels) is).1
labels_in-well (item.Object (object.Pod other)) is = refl
labels_in-well (item.Object (object.Controller other)) is = refl
labels_in-well (item.Object (object.Service other)) is = refl
labels_in-well (item.Object (object.Ingress other)) is = refl
labels_in-well (item.Object object.Other) is = refl
labels_in-well (item.Policy other) is = refl

listed_labels-well : (items : List Item) → All IsWellItem items → (name : List ℕ) → is_well_labels (listed_labels items name) ≡ true
listed_labels-well items all name = by (place_of items (namespace_name name))
  where
    found : (place : ℕ) (o : Option Item) → slice_get items place ≡ o → is_well_labels (labels_in o) ≡ true
    found place None at = refl
    found place (Some one) at = labels_in-well one (well_at items all place one at)

    by : (o : Option ℕ) → is_well_labels (labels_in (option_and_then (slice_get items) o)) ≡ true
    by None = refl
    by (Some place) = found place (slice_get items place) refl

is_word-from_name : (name : List ℕ) → is_name name ≡ true → is_word name ≡ true
is_word-from_name name is =
    (and_parts (not (length name == 0)) (is_word name) (and_parts (not (length name == 0) && is_word name) (not (has_slash name)) is).0).1

pub namespace_labels-well : (items : List Item) → All IsWellItem items → (name : List ℕ) → is_name name ≡ true → is_well_labels (namespace_labels items name) ≡ true
namespace_labels-well items all name is =
    fold-well [] (listed_labels items name ++ name_label name ∷ []) refl
    (list_all-append is_well_label (listed_labels items name) (name_label name ∷ []) ∙ and_from _ _ (listed_labels-well items all name) (and_from _ true (is_word-from_name name is) refl))
