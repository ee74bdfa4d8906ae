-- The chains of the owners of items. For `chains_of`, `top_owners` and crates above.
use Rattle.std.proofs.Common.{◌≡◌, ℕ, zero, suc, ◌+◌, ◌<◌, ◌≤◌, List, [], ◌∷◌, ◌++◌, length, map, take, get_or, Bool, true, false, cond, Option, Some, None, refl, sym, ap, ◌∙◌, arith}
use Rattle.std.specs.Prelude.{find, All}
use Rattle.std.specs.List.{range_with_len, slice_get}
use Rattle.std.specs.Option.{option_and_then}
use Rattle.std.proofs.Math.Nat.{zero-add}
use Rattle.std.proofs.lemmas.List.{get_or-map, length-map, take_more, map-append}
use Rattle.std.proofs.lemmas.List.Quantifiers.{position-Some}
use Rattle.std.proofs.lemmas.Option.{option_and_then_some, slice_get_read}
use Rattle.std.proofs.lemmas.Simd.{map-map}
use Rattle.np_owners.specs.Prelude.{IsChains, Item, ObjectName, Owner, OwnerRef, controller_place, first_cycle, first_in_cycle, full_name_of, is_item_named, last_owner, name_of_item, owner_of_item, owner_place, place_in_namespace, place_of, places_of_owners, top, top_owners, ups}
use Rattle.np_objects.specs.Prelude.{is_controller_kind}

-- ---- what owns an item is an item

place_within : (items : List Item) (name : ObjectName) (place : ℕ) → place_of items name ≡ Some place → place < length items
place_within [] name place is = cc
place_within (one ∷ items) name place is = (position-Some (is_item_named name) (one ∷ items) place one is).0

controller_within : (items : List Item) (namespace : List ℕ) (owner : OwnerRef) (place : ℕ) → controller_place items namespace owner ≡ Some place → place < length items
controller_within items namespace owner place is = by (is_controller_kind owner.kind) is
  where
    name : ObjectName
    name = record { kind = owner.kind; namespace = namespace; name = owner.name }

    by : (b : Bool) → cond b (place_of items name) None ≡ Some place → place < length items
    by true found = place_within items name place found
    by false found = cc

owner_within : (items : List Item) (one : Item) (place : ℕ) → owner_place items one ≡ Some place → place < length items
owner_within items one place is =
    option_and_then_some (place_in_namespace items (owner_of_item one)) (name_of_item one) place is
    (λ name named found. option_and_then_some (controller_place items name.namespace) (owner_of_item one) place found
    (λ owner owned at. controller_within items name.namespace owner place at))

-- the owners of items are chains
pub IsChains-ups : (items : List Item) → length items ≤ 20000 → IsChains (ups items)
IsChains-ups items few = record {
  within = λ k d below place is.
      let long : length (ups items) ≡ length items = length-map items (owner_place items) in
      rw long (by items k d (rw long at below) place is);
  few = rw (length-map items (owner_place items)) (omega (arith, few));
}
  where
    by : (all : List Item) (k : ℕ) (d : Option ℕ) → k < length all → (place : ℕ) → get_or (map (owner_place items) all) k d ≡ Some place → place < length items
    by [] k d below place is = omega (arith, below)
    by (one ∷ others) k d below place is = owner_within items (get_or (one ∷ others) k one) place (sym (get_or-map (owner_place items) (one ∷ others) k one d below) ∙ is)

-- ---- cycles

-- what is found among numbers is one of them
find_within : (test : ℕ → Bool) (a n place : ℕ) → find test (range_with_len a n) ≡ Some place → place < a + n
find_within test a zero place is = cc
find_within test a (suc n) place is = by (test a) is (find_within test (a + 1) n place)
  where
    by : (b : Bool) → cond b (Some a) (find test (range_with_len (a + 1) n)) ≡ Some place → (find test (range_with_len (a + 1) n) ≡ Some place → place < a + 1 + n) → place < a + suc n
    by true found later = let same : a ≡ place = cc in omega (arith, same)
    by false found later = omega (arith, later found)

-- the first place of a cycle is that of an item
pub first_cycle_within : (items : List Item) (place : ℕ) → first_cycle (ups items) ≡ Some place → place < length items
first_cycle_within items place is =
    let within : place < 0 + length (ups items) = find_within _ 0 (length (ups items)) place is in
    let long : 0 + length (ups items) ≡ length items = zero-add _ ∙ length-map items (owner_place items) in
    rw long at within

-- the first cycle is named by its item
pub cycle_named : (items : List Item) (place : ℕ) (one : Item) (text : List ℕ) → first_cycle (ups items) ≡ Some place → place < length items → one ≡ get_or items place one → text ≡ full_name_of one →
    first_in_cycle items ≡ Some text
cycle_named items place one text is within at named =
    let found : slice_get items place ≡ Some one = slice_get_read items (length items) place one refl within at in
    rw (is, found, named) refl

-- ---- top owners

-- the owner that the item at a place names, or the item itself
abbrev pub owner_at : List Item → ℕ → Option Owner
owner_at items place = option_and_then last_owner (slice_get items place)

-- one top more
pub owners_at_tops-more : (items : List Item) (tops : List ℕ) (i : ℕ) (one : Item) (before after : List (Option Owner)) → i < length tops → get_or tops i 0 < length items →
    one ≡ get_or items (get_or tops i 0) one
    → after ≡ before ++ last_owner one ∷ []
    → before ≡ map (owner_at items) (take i tops)
    → after ≡ map (owner_at items) (take (i + 1) tops)
owners_at_tops-more items tops i one before after more within at pushed so_far =
    let found : slice_get items (get_or tops i 0) ≡ Some one = slice_get_read items (length items) (get_or tops i 0) one refl within at in
    let here : owner_at items (get_or tops i 0) ≡ last_owner one = rw found refl in
    pushed ∙ ap (λ (owners : List (Option Owner)). owners ++ last_owner one ∷ []) so_far
    ∙ ap (λ (owner : Option Owner). map (owner_at items) (take i tops) ++ owner ∷ []) (sym here)
    ∙ sym (ap (map (owner_at items)) (take_more tops i 0 more) ∙ map-append (owner_at items) (take i tops) (get_or tops i 0 ∷ []))

-- each top is the place of an item
pub top_within : (items : List Item) (chains : List (Option ℕ)) (tops shown : List ℕ) → chains ≡ ups items → All (λ place. place < length chains) tops → shown ≡ tops → (i : ℕ) → i < length shown →
    get_or shown i 0 < length items
top_within items chains tops shown are all same i below =
    let long : length chains ≡ length items = ap length are ∙ length-map items (owner_place items) in
    let within : get_or shown i 0 < length chains = rw same (all i 0 (rw same at below)) in
    rw long at within

-- the owners at all tops
pub owners_at_tops : (items : List Item) (tops : List ℕ) → tops ≡ map (top (ups items)) (places_of_owners (ups items)) → map (owner_at items) tops ≡ top_owners items
owners_at_tops items tops are =
    ap (map (owner_at items)) are
    ∙ map-map (owner_at items) (top (ups items)) (places_of_owners (ups items))
    ∙ ap (λ n. map (λ place. owner_at items (top (ups items) place)) (range_with_len 0 n)) (length-map items (owner_place items))
