-- Which controllers have a template pod: those of which no pod is listed.
use Rattle.std.specs.Prelude.{◌≡◌, ℕ, List, [], ◌∷◌, false, Option, Some, None, IsSome, ⊤}
use Rattle.std.specs.List.{Contains}
use Rattle.np_meaning.specs.Types.{ControllerItem, Item, OwnerRef, PodItem}
use Rattle.np_items.specs.declared.item.Item.TheVariants as item
use Rattle.np_objects.specs.Prelude.{kind_name}
use Rattle.np_objects.specs.declared.object.Object.TheVariants as object

abbrev pub pod_item : PodItem → Item
pod_item pod = item.Object (object.Pod pod)

abbrev pub controller_item : ControllerItem → Item
controller_item controller = item.Object (object.Controller controller)

-- ---- owners

-- a controller is the one that a reference names, where it stands in an object of a namespace
pub record IsNamedBy (owner : OwnerRef) (space : List ℕ) (controller : ControllerItem) : Type 0 where
  pub kind : kind_name controller.kind ≡ owner.kind
  pub namespace : controller.namespace ≡ space
  pub name : controller.name ≡ owner.name

-- there is a reference, and the controller is the one that it names
abbrev pub IsNamedIn : Option OwnerRef → List ℕ → ControllerItem → Type 0
IsNamedIn None space controller = ⊥
IsNamedIn (Some owner) space controller = IsNamedBy owner space controller

-- a controller owns a pod or a controller of its namespace that names it as its owner
abbrev pub Owns : ControllerItem → Item → Type 0
Owns controller (item.Object (object.Pod pod)) = IsNamedIn pod.owner pod.namespace controller
Owns controller (item.Object (object.Controller owned)) = IsNamedIn owned.owner owned.namespace controller
Owns controller other = ⊥

-- A chain of owners: the controllers are listed, the first one owns the item, and each further one the one before it.
abbrev pub IsChainOfOwners : List Item → Item → List ControllerItem → Type 0
IsChainOfOwners items one [] = ⊤
IsChainOfOwners items one (owner ∷ owners) =
    Contains items (controller_item owner) × Owns owner one × IsChainOfOwners items (controller_item owner) owners

-- a controller is in the chain of owners of an item
pub record IsInChain (items : List Item) (controller : ControllerItem) (one : Item) : Type 0 where
  pub owners : List ControllerItem
  pub chain : IsChainOfOwners items one owners
  pub among : Contains owners controller

-- ---- template pods

-- A controller has a template and wants pods, no listed controller owns it, and it is in the chain of owners of no listed pod. A
-- pod that takes no part in the estate counts, too.
pub record LacksPods (items : List Item) (controller : ControllerItem) : Type 0 where
  pub template : IsSome controller.template
  pub wanted : controller.none_wanted ≡ false
  pub unowned : (owner : ControllerItem) → Contains items (controller_item owner) → Owns owner (controller_item controller) → ⊥
  pub podless : (pod : PodItem) → Contains items (pod_item pod) → IsInChain items controller (pod_item pod) → ⊥

-- an item has a template pod only where it is a controller that lacks pods
abbrev pub HasTemplatePod : List Item → Item → Type 0
HasTemplatePod items (item.Object (object.Controller controller)) = LacksPods items controller
HasTemplatePod items other = ⊥
