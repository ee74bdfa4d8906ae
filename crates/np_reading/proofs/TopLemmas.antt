-- The top owner of an item that no listed controller owns is the one that it names.
-- For `pods_without_listed_owners_name_their_top_owners` and crates above.
use Rattle.std.proofs.Common.{◌≡◌, ℕ, List, length, Option, Some, None, refl, ap, ◌∙◌}
use Rattle.std.specs.Prelude.{codes, option_map, unwrap_or}
use Rattle.std.specs.List.{slice_get}
use Rattle.std.specs.Option.{option_flatten, option_or}
use Rattle.std.proofs.lemmas.Option.{slice_get-map}
use Rattle.np_owners.proofs.Walks.{chain_none}
use Rattle.np_owners.specs.Prelude.{by_reference, last_of, last_owner, object_named, owner_named, owner_place, top, top_owner, up, ups}
use Rattle.np_reading.specs.Prelude.{Item, OwnerRef, PodItem, named_or_itself}
use Rattle.np_items.specs.declared.item.Item.TheVariants as item
use Rattle.np_objects.specs.declared.object.Object.TheVariants as object

top_owner-unlisted : (items : List Item) (place : ℕ) (one : Item) → slice_get items place ≡ Some one → owner_place items one ≡ None → top_owner items place ≡ last_owner one
top_owner-unlisted items place one at alone =
    let over : up (ups items) place ≡ None = ap option_flatten (slice_get-map (owner_place items) items place) ∙ rw (at, alone) refl in
    let last : top (ups items) place ≡ place = ap (last_of place) (chain_none (ups items) (length (ups items)) place over) in
    rw (last, at) refl

last_owner-pod : (pod : PodItem) → last_owner (item.Object (object.Pod pod)) ≡ Some (named_or_itself pod)
last_owner-pod pod = by pod.owner
  where
    by : (o : Option OwnerRef) → option_or (option_map by_reference o) (option_map owner_named (object_named (codes "Pod") pod.namespace pod.name)) ≡ Some (unwrap_or (option_map by_reference o) (record { kind = codes "Pod"; name = pod.name }))
    by None = refl
    by (Some owner) = refl

pub top_owner-pod : (items : List Item) (place : ℕ) (pod : PodItem) → slice_get items place ≡ Some (item.Object (object.Pod pod)) → owner_place items (item.Object (object.Pod pod)) ≡ None →
    top_owner items place ≡ Some (named_or_itself pod)
top_owner-pod items place pod at alone = top_owner-unlisted items place (item.Object (object.Pod pod)) at alone ∙ last_owner-pod pod
