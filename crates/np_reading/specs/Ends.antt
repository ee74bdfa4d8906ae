-- Which items give a pod of the estate, and which pod.
use Rattle.std.specs.Prelude.{ℕ, ◌+◌, List, [], ◌∷◌, ◌++◌, Bool, true, false, ◌&&◌, ◌||◌, not, if◌then◌else◌, Option, Some, None, option_to_list}
use Rattle.std.specs.Option.{option_and_then, option_map, option_map_or}
use Rattle.np_reading.specs.Namespaces.{namespace_labels}
use Rattle.np_reading.specs.Types.{ControllerItem, Item, Object, Owner, Pair, Pod, PodContext, PodItem, Template}
use Rattle.np_items.specs.declared.item.Item.TheVariants as item
use Rattle.np_objects.specs.declared.object.Object.TheVariants as object
use Rattle.np_owners.specs.Prelude.{makes_pod, name_of_item, top_owner}

-- ---- which items give a pod

-- whether a controller's pods are on the network of their node
abbrev pub is_on_host : ControllerItem → Bool
is_on_host controller = option_map_or (λ template. template.host_network) controller.template false

-- Whether an item gives a pod: a pod, unless it is on the network of its node or finished, and a controller that makes
-- pods of which none is listed, unless they are on the network of their node.
abbrev pub gives_end : Bool → Item → Bool
gives_end makes (item.Object (object.Pod pod)) = not (pod.host_network || pod.finished)
gives_end makes (item.Object (object.Controller controller)) = makes && not (is_on_host controller)
gives_end makes other = false

-- ---- the pod that an item gives

abbrev pub context : List Pair → Owner → PodContext
context labels owner = record { namespace_labels = labels; owner = owner }

-- what the rest of the list says of the pod of an item whose top owner is known: the labels of its namespace besides
abbrev pub context_of : List Item → Item → Option Owner → Option PodContext
context_of items one owner = option_and_then (λ name. option_map (context (namespace_labels items name.namespace)) owner) (name_of_item one)

-- what the rest of the list says of the pod of the item at a place, if the item gives one
abbrev pub context_at : List Item → ℕ → Item → Option PodContext
context_at items place one = if gives_end (makes_pod items place) one then context_of items one (top_owner items place) else None

abbrev pub contexts_from : List Item → ℕ → List Item → List (Option PodContext)
contexts_from items place [] = []
contexts_from items place (one ∷ rest) = context_at items place one ∷ contexts_from items (place + 1) rest

abbrev pub contexts_of : List Item → List (Option PodContext)
contexts_of items = contexts_from items 0 items

abbrev pub listed_pod : PodItem → PodContext → Pod
listed_pod pod around = record {
  namespace = pod.namespace;
  namespace_labels = around.namespace_labels;
  name = pod.name;
  labels = pod.labels;
  ports = pod.ports;
  addresses = pod.addresses;
  owner = around.owner;
  listed = true;
}

-- the pod of a template has the name of its controller, and no address
abbrev pub made_pod : ControllerItem → PodContext → Template → Pod
made_pod controller around template = record {
  namespace = controller.namespace;
  namespace_labels = around.namespace_labels;
  name = controller.name;
  labels = template.labels;
  ports = template.ports;
  addresses = [];
  owner = around.owner;
  listed = false;
}

abbrev pub pod_of_object : Object → PodContext → Option Pod
pod_of_object (object.Pod pod) around = Some (listed_pod pod around)
pod_of_object (object.Controller controller) around = option_map (made_pod controller around) controller.template
pod_of_object _ around = None

abbrev pub pod_of_item : Item → PodContext → Option Pod
pod_of_item (item.Object object) around = pod_of_object object around
pod_of_item (item.Policy policy) around = None

-- the pod that the item at a place gives, if it gives one
abbrev pub pod_at_item : List Item → ℕ → Item → Option Pod
pod_at_item items place one = option_and_then (pod_of_item one) (context_at items place one)

-- the pods that items give, the first of which stands at a place
abbrev pub pods_from : List Item → ℕ → List Item → List Pod
pods_from items place [] = []
pods_from items place (one ∷ rest) = option_to_list (pod_at_item items place one) ++ pods_from items (place + 1) rest

-- all pods, in the order of the items
abbrev pub pods_of : List Item → List Pod
pods_of items = pods_from items 0 items
