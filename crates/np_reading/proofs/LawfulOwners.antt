-- Top owners have names. For LawfulWell.
use Rattle.std.proofs.Common.{◌≡◌, ℕ, List, Bool, true, ◌&&◌, Option, Some, None, refl, subst}
use Rattle.std.specs.Prelude.{All}
use Rattle.std.specs.List.{slice_get}
use Rattle.std.proofs.lemmas.Bool.{and_from, and_parts}
use Rattle.std.specs.Option.{option_map, option_or}
use Rattle.std.proofs.lemmas.Option.{none-some, same_Some, option_and_then_some}
use Rattle.np_owners.specs.Prelude.{by_reference, last_owner, name_of_item, owner_named, owner_of_item, top, top_owner, ups}
use Rattle.np_reading.proofs.LawfulNamespaces.{well_at}
use Rattle.np_items.specs.Prelude.{IsWellItem}
use Rattle.np_reading.specs.Prelude.{Item, ObjectName, Owner, OwnerRef}
use Rattle.np_items.specs.declared.item.Item.TheVariants as item
use Rattle.np_model.specs.Prelude.{is_name, is_well_labels, is_well_ports, option_all}
use Rattle.np_objects.specs.Prelude.{is_well_owner, is_well_template, kind_name}
use Rattle.np_model.specs.WellObjects.{is_worded_selector}
use Rattle.np_objects.specs.declared.controller.ControllerKind.{ControllerKind}
use Rattle.np_objects.specs.declared.controller.ControllerKind.TheVariants.{Deployment, ReplicaSet, StatefulSet, DaemonSet, ReplicationController, Job, CronJob}
use Rattle.np_objects.specs.declared.object.Object.TheVariants as object
use Rattle.np_policies.specs.declared.policy.Policy.TheVariants as policy

abbrev pub is_named_owner : Owner → Bool
is_named_owner owner = is_name owner.kind && is_name owner.name

abbrev has_words : ObjectName → Bool
has_words name = is_name name.kind && is_name name.name

-- ---- owners that items name

owner_of-well : (one : Item) → IsWellItem one → option_all is_well_owner (owner_of_item one) ≡ true
owner_of-well (item.Object (object.Pod pod)) is =
    let owned = and_parts _ (is_well_ports pod.ports) is in
    (and_parts _ (option_all is_well_owner pod.owner) owned.0).1
owner_of-well (item.Object (object.Controller controller)) is =
    let owned = and_parts _ (option_all is_well_template controller.template) is in
    (and_parts _ (option_all is_well_owner controller.owner) owned.0).1
owner_of-well (item.Object (object.Namespace other)) is = refl
owner_of-well (item.Object (object.Service other)) is = refl
owner_of-well (item.Object (object.Ingress other)) is = refl
owner_of-well (item.Object object.Other) is = refl
owner_of-well (item.Policy other) is = refl

-- ---- names of items

kind_name-well : (kind : ControllerKind) → is_name (kind_name kind) ≡ true
kind_name-well Deployment = refl
kind_name-well ReplicaSet = refl
kind_name-well StatefulSet = refl
kind_name-well DaemonSet = refl
kind_name-well ReplicationController = refl
kind_name-well Job = refl
kind_name-well CronJob = refl

name_of-well : (one : Item) → IsWellItem one → option_all has_words (name_of_item one) ≡ true
name_of-well (item.Object (object.Pod pod)) is =
    let ported = and_parts _ (is_well_ports pod.ports) is in
    let owned = and_parts _ (option_all is_well_owner pod.owner) ported.0 in
    let labelled = and_parts (is_name pod.namespace && is_name pod.name) (is_well_labels pod.labels) owned.0 in
    (and_parts (is_name pod.namespace) (is_name pod.name) labelled.0).1
name_of-well (item.Object (object.Namespace namespace)) is = (and_parts (is_name namespace.name) (is_well_labels namespace.labels) is).0
name_of-well (item.Object (object.Controller controller)) is =
    let made = and_parts _ (option_all is_well_template controller.template) is in
    let owned = and_parts (is_name controller.namespace && is_name controller.name) (option_all is_well_owner controller.owner) made.0 in
    and_from (is_name (kind_name controller.kind)) (is_name controller.name) (kind_name-well controller.kind) (and_parts (is_name controller.namespace) (is_name controller.name) owned.0).1
name_of-well (item.Object (object.Service service)) is =
    let ported = and_parts _ _ is in
    let selected = and_parts (is_name service.namespace && is_name service.name) (option_all is_worded_selector service.selector) ported.0 in
    (and_parts (is_name service.namespace) (is_name service.name) selected.0).1
name_of-well (item.Object (object.Ingress ingress)) is = (and_parts (is_name ingress.namespace) (is_name ingress.name) is).1
name_of-well (item.Object object.Other) is = refl
name_of-well (item.Policy (policy.Net net)) is =
    let out = and_parts _ _ is in
    let within = and_parts _ _ out.0 in
    let subject = and_parts (is_name net.namespace && is_name net.name) _ within.0 in
    (and_parts (is_name net.namespace) (is_name net.name) subject.0).1
name_of-well (item.Policy (policy.Admin admin)) is =
    let out = and_parts _ _ is in
    let within = and_parts _ _ out.0 in
    let subject = and_parts _ _ within.0 in
    (and_parts (is_name admin.name) _ subject.0).0
name_of-well (item.Policy (policy.Base base)) is = refl

-- ---- top owners

last_owner-well : (one : Item) (owner : Owner) → IsWellItem one → last_owner one ≡ Some owner → is_named_owner owner ≡ true
last_owner-well one owner all is = by (owner_of_item one) (name_of_item one) (owner_of-well one all) (name_of-well one all) is
  where
    by : (reference : Option OwnerRef) (name : Option ObjectName) → option_all is_well_owner reference ≡ true → option_all has_words name ≡ true → option_or (option_map by_reference reference) (option_map owner_named name) ≡ Some owner →
        is_named_owner owner ≡ true
    by (Some reference) name reference_well name_well found =
        subst (λ (o : Owner). is_named_owner o ≡ true) (same_Some (by_reference reference) owner found) reference_well
    by None (Some name) reference_well name_well found =
        subst (λ (o : Owner). is_named_owner o ≡ true) (same_Some (owner_named name) owner found) name_well
    by None None reference_well name_well found = absurd (none-some owner found)

pub top_owner-well : (items : List Item) → All IsWellItem items → (place : ℕ) (owner : Owner) → top_owner items place ≡ Some owner → is_named_owner owner ≡ true
top_owner-well items all place owner is =
    option_and_then_some last_owner (slice_get items (top (ups items) place)) owner is
    (λ one at last. last_owner-well one owner (well_at items all (top (ups items) place) one at) last)
