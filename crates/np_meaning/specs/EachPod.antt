-- The pods of an estate are those of the items that were read, each with the labels of its namespace.
use Rattle.std.specs.Prelude.{◌≡◌, ◌≢◌, ℕ, ◌+◌, List, [], ◌∷◌, ◌++◌, filter, find, option_to_list, Bool, not, ◌&&◌, if◌then◌else◌, Option, Some, None, codes, All, ⊤}
use Rattle.std.specs.List.{filter_map}
use Rattle.std.specs.Option.{option_and_then}
use Rattle.std.specs.Str.{bytes_eq}
use Rattle.np_meaning.specs.Types.{ControllerItem, EstateLists, Item, NamespaceItem, Pod, PodItem, Template}
use Rattle.np_items.specs.declared.item.Item.TheVariants as item
use Rattle.np_labels.specs.Prelude.{last_value_of, value_of}
use Rattle.np_objects.specs.declared.object.Object.TheVariants as object
use Rattle.np_owners.specs.Prelude.{makes_pod}

-- each of one list is what the relation says of the one at its place in another, and there are as many
abbrev pub AreEach : {A B : Type 0} → (A → B → Type 0) → List A → List B → Type 0
AreEach Is [] [] = ⊤
AreEach Is [] (y ∷ ys) = ⊥
AreEach Is (x ∷ xs) [] = ⊥
AreEach Is (x ∷ xs) (y ∷ ys) = Is x y × AreEach Is xs ys

-- ---- listed pods

abbrev pub pod : Item → Option PodItem
pod (item.Object (object.Pod one)) = Some one
pod other = None

-- a listed pod has connections of its own unless it is on the network of its node, or finished
abbrev pub takes_part : PodItem → Bool
takes_part one = not one.host_network && not one.finished

pub record IsListedPod (one : PodItem) (end : Pod) : Type 0 where
  pub namespace : end.namespace ≡ one.namespace
  pub name : end.name ≡ one.name
  pub labels : end.labels ≡ one.labels
  pub ports : end.ports ≡ one.ports
  pub addresses : end.addresses ≡ one.addresses

-- ---- pods of templates

-- a controller and its template, unless the pods of that are on the network of their node
abbrev pub templated : Item → Option (ControllerItem × Template)
templated (item.Object (object.Controller controller)) =
    option_and_then (λ template. if template.host_network then None else Some (controller, template)) controller.template
templated other = None

-- those of the controllers that stand for pods, where the first item stands at a place
abbrev pub templates_from : List Item → ℕ → List Item → List (ControllerItem × Template)
templates_from items place [] = []
templates_from items place (one ∷ rest) =
    option_to_list (if makes_pod items place then templated one else None) ++ templates_from items (place + 1) rest

pub record IsMadePod (made : ControllerItem × Template) (end : Pod) : Type 0 where
  pub namespace : end.namespace ≡ made.0.namespace
  pub name : end.name ≡ made.0.name
  pub labels : end.labels ≡ made.1.labels
  pub ports : end.ports ≡ made.1.ports
  pub addresses : end.addresses ≡ []

-- ---- namespaces

abbrev pub namespace : Item → Option NamespaceItem
namespace (item.Object (object.Namespace one)) = Some one
namespace other = None

-- the listed namespace of a name
abbrev pub namespace_named : List Item → List ℕ → Option NamespaceItem
namespace_named items name = find (λ one. bytes_eq name one.name) (filter_map namespace items)

-- the labels of a pod's namespace say its name; the others are those of the listed one, and there are none where none is listed
pub record SaysNamespace (items : List Item) (end : Pod) : Type 0 where
  pub name : value_of end.namespace_labels (codes "kubernetes.io/metadata.name") ≡ Some end.namespace
  pub others : (key : List ℕ) → key ≢ codes "kubernetes.io/metadata.name"
      → value_of end.namespace_labels key ≡ option_and_then (λ one. last_value_of one.labels key) (namespace_named items end.namespace)

-- ---- all pods

-- The pods are, in order, the listed ones that take part, and those of the templates of the controllers that stand for pods;
-- and each has the labels of its namespace.
pub record HoldsEachPod (items : List Item) (lists : EstateLists) : Type 0 where
  pub listed : AreEach IsListedPod (filter takes_part (filter_map pod items)) (filter (λ end. end.listed) lists.pods)
  pub made : AreEach IsMadePod (templates_from items 0 items) (filter (λ end. not end.listed) lists.pods)
  pub namespaces : All (SaysNamespace items) lists.pods
