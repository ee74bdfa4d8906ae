-- Which controllers stand for a pod. For `made_pods`.
use Rattle.std.proofs.Common.{◌≡◌, ℕ, ◌<◌, List, length, map, get_or, Bool, ◌&&◌, not, Option, Some, None, is_some, is_none, refl, sym, ap, ◌∙◌}
use Rattle.std.specs.List.{slice_get, range_with_len}
use Rattle.std.proofs.Math.Nat.{zero-add}
use Rattle.std.proofs.lemmas.List.{get_or-map, length-map}
use Rattle.std.proofs.lemmas.List.FromFn.{length-map-range_with_len, get_or-map-range_with_len}
use Rattle.std.proofs.lemmas.Option.{slice_get_read}
use Rattle.np_owners.specs.Prelude.{Item, has_pods, is_over_some, is_pod, makes_pod, owner_place, places_of_owners, up, ups, wants_pods}

none_is : (o : Option ℕ) → not (is_some o) ≡ is_none o
none_is None = refl
none_is (Some x) = refl

-- there is a mark for each item
pub marks_long : (items : List Item) (marks : List Bool) → marks ≡ map (is_over_some (ups items) (map is_pod items)) (places_of_owners (ups items)) → length marks ≡ length items
marks_long items marks are =
    ap length are ∙ length-map-range_with_len (is_over_some (ups items) (map is_pod items)) 0 (length (ups items)) ∙ length-map items (owner_place items)

-- there is an item at each place of the chains
pub item_within : (items : List Item) (chains : List (Option ℕ)) (n place : ℕ) → n ≡ length chains → chains ≡ ups items → place < n → place < length items
item_within items chains n place is are below =
    let long : n ≡ length items = is ∙ ap length are ∙ length-map items (owner_place items) in
    rw long at below

module _ (items : List Item) (place : ℕ) (one : Item) (within : place < length items) (at : one ≡ get_or items place one) where
  -- what stands over a place owns its item
  up_at : up (ups items) place ≡ owner_place items one
  up_at =
      let owner = owner_place items in
      let read : owner one ≡ get_or (ups items) place (owner one) = sym (get_or-map owner items place one (owner one) within ∙ ap owner (sym at)) in
      rw (slice_get_read (ups items) (length items) place (owner one) (sym (length-map items owner)) within read) refl

  -- what the mark of a place says
  pub mark_at : (marks : List Bool) (d : Bool) → marks ≡ map (is_over_some (ups items) (map is_pod items)) (places_of_owners (ups items)) → get_or marks place d ≡ has_pods items place
  mark_at marks d are =
      ap (λ (all : List Bool). get_or all place d) are
      ∙ ap (λ n. get_or (map (is_over_some (ups items) (map is_pod items)) (range_with_len 0 n)) place d) (length-map items (owner_place items))
      ∙ get_or-map-range_with_len (is_over_some (ups items) (map is_pod items)) 0 (length items) place place d within (zero-add place)

  -- whether its item makes a pod
  pub makes_pod_at : (owned marked : Bool) → owned ≡ is_some (up (ups items) place) → marked ≡ has_pods items place → ((wants_pods one && not owned) && not marked) ≡ makes_pod items place
  makes_pod_at owned marked is_owned is_marked =
      let found : slice_get items place ≡ Some one = slice_get_read items (length items) place one refl within at in
      rw (is_owned, is_marked, up_at, none_is (owner_place items one), found) refl
