-- What is so of the pods that items give. For LawfulApart, LawfulReading and LawfulWell.
use Rattle.std.proofs.Common.{◌≡◌, ℕ, ◌+◌, ◌≤◌, List, [], ◌∷◌, ◌++◌, length, Bool, true, false, cond, ◌&&◌, Option, Some, None, refl, sym, ap, subst, ◌∙◌, arith}
use Rattle.std.specs.Prelude.{codes, option_to_list}
use Rattle.std.specs.List.{AllByRecursion}
use Rattle.std.specs.Option.{option_map}
use Rattle.std.proofs.lemmas.Bool.{and_from, and_parts}
use Rattle.std.proofs.lemmas.Option.{none-some, same_Some, option_and_then_some}
use Rattle.np_reading.proofs.LawfulLists.{AllLater}
use Rattle.np_reading.specs.Prelude.{ControllerItem, Item, ObjectName, Owner, Pod, PodContext, PodItem, Template, context, context_at, context_of, gives_end, listed_pod, made_pod, namespace_labels, pod_at_item, pod_of_item, pods_from}
use Rattle.np_items.specs.Prelude.{IsWellItem}
use Rattle.np_items.specs.declared.item.Item.TheVariants as item
use Rattle.np_model.specs.Prelude.{is_name, is_well_labels, is_well_ports, option_all}
use Rattle.np_objects.specs.Prelude.{is_well_owner, is_well_template}
use Rattle.np_objects.specs.declared.object.Object.TheVariants as object
use Rattle.np_owners.specs.Prelude.{makes_pod, name_of_item, object_named, top_owner}

-- whether a pod's own names and labels are names and labels
abbrev pub is_well_itself : Pod → Bool
is_well_itself pod = is_name pod.namespace && is_name pod.name && is_well_labels pod.labels && is_well_ports pod.ports

-- ---- what the item itself says of its pod

pub record IsEndOf (one : Item) (around : PodContext) (pod : Pod) : Type 0 where
  pub labels : pod.namespace_labels ≡ around.namespace_labels
  pub owner : pod.owner ≡ around.owner
  pub namespace : (name : ObjectName) → name_of_item one ≡ Some name → pod.namespace ≡ name.namespace
  pub listed : pod.listed ≡ true → name_of_item one ≡ object_named (codes "Pod") pod.namespace pod.name
  pub well : IsWellItem one → is_well_itself pod ≡ true

namespace_of : (kind namespace name : List ℕ) (other : ObjectName) → object_named kind namespace name ≡ Some other → namespace ≡ other.namespace
namespace_of kind namespace name other is =
    ap (λ (n : ObjectName). n.namespace) (same_Some (record { kind = kind; namespace = namespace; name = name }) other is)

IsEndOf-listed : (listed : PodItem) (around : PodContext) → IsEndOf (item.Object (object.Pod listed)) around (listed_pod listed around)
IsEndOf-listed listed around = record {
  labels = refl;
  owner = refl;
  namespace = namespace_of (codes "Pod") listed.namespace listed.name;
  listed = λ is. refl;
  well = λ all.
      let owned = and_parts _ (is_well_ports listed.ports) all in
      let parts = and_parts _ (option_all is_well_owner listed.owner) owned.0 in
      and_from _ (is_well_ports listed.ports) parts.0 owned.1;
}

IsEndOf-made : (controller : ControllerItem) (around : PodContext) (template : Template) → controller.template ≡ Some template →
    IsEndOf (item.Object (object.Controller controller)) around (made_pod controller around template)
IsEndOf-made controller around template is = record {
  labels = refl;
  owner = refl;
  namespace = λ name object_named. namespace_of _ controller.namespace controller.name name object_named;
  listed = λ never. cc;
  well = λ all.
      let made = and_parts _ (option_all is_well_template controller.template) all in
      let parts = and_parts _ (option_all is_well_owner controller.owner) made.0 in
      let inside = and_parts (is_well_labels template.labels) (is_well_ports template.ports) (rw is at made.1) in
      and_from _ (is_well_ports template.ports) (and_from _ (is_well_labels template.labels) parts.0 inside.0) inside.1;
}

IsEndOf-end_of : (one : Item) (around : PodContext) (pod : Pod) → pod_of_item one around ≡ Some pod → IsEndOf one around pod
IsEndOf-end_of (item.Object (object.Pod listed)) around pod is =
    subst (IsEndOf (item.Object (object.Pod listed)) around) (same_Some (listed_pod listed around) pod is) (IsEndOf-listed listed around)
IsEndOf-end_of (item.Object (object.Controller controller)) around pod is = by controller.template refl is
  where
    by : (o : Option Template) → controller.template ≡ o → option_map (made_pod controller around) o ≡ Some pod → IsEndOf (item.Object (object.Controller controller)) around pod
    by None none found = absurd (none-some pod found)
    by (Some template) some found =
        subst (IsEndOf (item.Object (object.Controller controller)) around) (same_Some (made_pod controller around template) pod found) (IsEndOf-made controller around template some)
IsEndOf-end_of (item.Object (object.Namespace other)) around pod is = absurd (none-some pod is)
IsEndOf-end_of (item.Object (object.Service other)) around pod is = absurd (none-some pod is)
IsEndOf-end_of (item.Object (object.Ingress other)) around pod is = absurd (none-some pod is)
IsEndOf-end_of (item.Object object.Other) around pod is = absurd (none-some pod is)
IsEndOf-end_of (item.Policy policy) around pod is = absurd (none-some pod is)

-- ---- what the rest of the list says of it

pub record IsContextOf (items : List Item) (place : ℕ) (one : Item) (around : PodContext) : Type 0 where
  pub labels : (name : ObjectName) × (name_of_item one ≡ Some name) × (around.namespace_labels ≡ namespace_labels items name.namespace)
  pub owner : top_owner items place ≡ Some around.owner

IsContextOf-context_at : (items : List Item) (place : ℕ) (one : Item) (around : PodContext) → context_at items place one ≡ Some around → IsContextOf items place one around
IsContextOf-context_at items place one around is = by (gives_end (makes_pod items place) one) is
  where
    owned : (name : ObjectName) → name_of_item one ≡ Some name → (o : Option Owner) → top_owner items place ≡ o → option_map (context (namespace_labels items name.namespace)) o ≡ Some around →
        IsContextOf items place one around
    owned name object_named None top found = absurd (none-some around found)
    owned name object_named (Some owner) top found =
        let same = same_Some (context (namespace_labels items name.namespace) owner) around found in
        record {
          labels = (name, object_named, sym (ap (λ (s : PodContext). s.namespace_labels) same));
          owner = top ∙ ap (λ (s : PodContext). Some s.owner) same;
        }

    by : (b : Bool) → cond b (context_of items one (top_owner items place)) None ≡ Some around → IsContextOf items place one around
    by true found =
        option_and_then_some (λ name. option_map (context (namespace_labels items name.namespace)) (top_owner items place)) (name_of_item one) around found
        (λ name object_named made. owned name object_named (top_owner items place) refl made)
    by false found = absurd (none-some around found)

-- ---- the pod of an item

pub record IsPodOf (items : List Item) (one : Item) (pod : Pod) : Type 0 where
  pub labels : pod.namespace_labels ≡ namespace_labels items pod.namespace
  pub owner : (place : ℕ) × (top_owner items place ≡ Some pod.owner)
  pub listed : pod.listed ≡ true → name_of_item one ≡ object_named (codes "Pod") pod.namespace pod.name
  pub well : IsWellItem one → is_well_itself pod ≡ true

pub IsPodOf-pod_at_item : (items : List Item) (place : ℕ) (one : Item) (pod : Pod) → pod_at_item items place one ≡ Some pod → IsPodOf items one pod
IsPodOf-pod_at_item items place one pod is =
    option_and_then_some (pod_of_item one) (context_at items place one) pod is
    (λ around at ends. both around (IsContextOf-context_at items place one around at) (IsEndOf-end_of one around pod ends))
  where
    both : (around : PodContext) → IsContextOf items place one around → IsEndOf one around pod → IsPodOf items one pod
    both around said end = record {
      labels = end.labels ∙ said.labels.2 ∙ ap (namespace_labels items) (sym (end.namespace said.labels.0 said.labels.1));
      owner = (place, said.owner ∙ ap Some (sym end.owner));
      listed = end.listed;
      well = end.well;
    }

-- ---- all pods

module _ (items : List Item) where
  pub length-pods_from-le : (place : ℕ) (rest : List Item) → length (pods_from items place rest) ≤ length rest
  length-pods_from-le place [] = omega arith
  length-pods_from-le place (one ∷ rest) = by (pod_at_item items place one) (length-pods_from-le (place + 1) rest)
    where
      by : (o : Option Pod) → length (pods_from items (place + 1) rest) ≤ length rest → length (option_to_list o ++ pods_from items (place + 1) rest) ≤ length (one ∷ rest)
      by None others = omega arith
      by (Some pod) others = omega arith

  pub all-pods_from : (P : Item → Type 0) (Q : Pod → Type 0) → ((one : Item) (pod : Pod) → IsPodOf items one pod → P one → Q pod) → (place : ℕ) (rest : List Item) → AllByRecursion P rest →
      AllByRecursion Q (pods_from items place rest)
  all-pods_from P Q each place [] all = tt
  all-pods_from P Q each place (one ∷ rest) all = by (pod_at_item items place one) refl (all-pods_from P Q each (place + 1) rest all.1)
    where
      by : (o : Option Pod) → pod_at_item items place one ≡ o → AllByRecursion Q (pods_from items (place + 1) rest) → AllByRecursion Q (option_to_list o ++ pods_from items (place + 1) rest)
      by None is others = others
      by (Some pod) is others = (each one pod (IsPodOf-pod_at_item items place one pod is) all.0, others)

  pub later-pods_from : (R : Item → Item → Type 0) (S : Pod → Pod → Type 0) → ((a b : Item) (x y : Pod) → IsPodOf items a x → IsPodOf items b y → R a b → S x y) → (place : ℕ) (rest : List Item) →
      AllLater R rest → AllLater S (pods_from items place rest)
  later-pods_from R S each place [] all = tt
  later-pods_from R S each place (one ∷ rest) all = by (pod_at_item items place one) refl (later-pods_from R S each (place + 1) rest all.1)
    where
      by : (o : Option Pod) → pod_at_item items place one ≡ o → AllLater S (pods_from items (place + 1) rest) → AllLater S (option_to_list o ++ pods_from items (place + 1) rest)
      by None is others = others
      by (Some pod) is others =
          (all-pods_from (R one) (S pod) (λ other x other_is so. each one other pod x (IsPodOf-pod_at_item items place one pod is) other_is so) (place + 1) rest all.0, others)
