-- Items of which no two have one name. For LawfulApart, OnceLemmas and crates above.
use Rattle.std.proofs.Common.{◌≡◌, ℕ, ◌+◌, List, [], ◌∷◌, ◌++◌, length, Bool, true, false, Option, Some, None, refl, sym, ◌∙◌}
use Rattle.std.specs.List.{AllByRecursion, position_from}
use Rattle.std.specs.Option.{option_and_then, option_or}
use Rattle.std.proofs.lemmas.Iterator.Adapters.{position_from-zero}
use Rattle.np_base.proofs.Each.{All-weaker, All-parts}
use Rattle.np_reading.proofs.LawfulLists.{AllLater}
use Rattle.np_reading.specs.Prelude.{Item, ObjectName}
use Rattle.np_owners.proofs.PlaceLemmas.{same_name-sym}
use Rattle.np_owners.specs.Prelude.{first_repeat, is_item_named, name_of_item, place_of, repeat_after, repeated, same_name}

-- two items have not one name
abbrev pub AreNamedApart : Item → Item → Type 0
AreNamedApart a b = (x y : ObjectName) → name_of_item a ≡ Some x → name_of_item b ≡ Some y → same_name x y ≡ false

-- where a search ends without a place, no element passes
none_passes : {X : Type 0} (test : X → Bool) (from : ℕ) (xs : List X) → position_from test from xs ≡ None → AllByRecursion (λ x. test x ≡ false) xs
none_passes test from [] nothing = tt
none_passes test from (x ∷ xs) nothing = by (test x) refl (none_passes test (from + 1) xs)
  where
    by : (b : Bool) → test x ≡ b → (position_from test (from + 1) xs ≡ None → AllByRecursion (λ x. test x ≡ false) xs) → AllByRecursion (λ x. test x ≡ false) (x ∷ xs)
    by true is rest = let found = rw is at nothing in cc
    by false is rest = (is, rest (rw is at nothing))

none_named : (items : List Item) (name : ObjectName) → place_of items name ≡ None → AllByRecursion (λ one. is_item_named name one ≡ false) items
none_named items name nothing = none_passes (is_item_named name) 0 items (sym (position_from-zero (is_item_named name) items) ∙ nothing)

-- an item that repeats no name has none of the names before it
apart_from_earlier : (earlier : List Item) (one : Item) → repeated earlier one ≡ None → AllByRecursion (λ before. AreNamedApart before one) earlier
apart_from_earlier earlier one nothing = by (name_of_item one) refl nothing
  where
    numbers : ℕ → Option (ℕ × ℕ)
    numbers first = Some (first + 1, length earlier + 1)

    free : (place : Option ℕ) → option_and_then numbers place ≡ None → place ≡ None
    free None is = refl
    free (Some place) is = cc

    unnamed : name_of_item one ≡ None → (items : List Item) → AllByRecursion (λ before. AreNamedApart before one) items
    unnamed is [] = tt
    unnamed is (before ∷ items) = ((λ x y x_is y_is. cc), unnamed is items)

    by : (o : Option ObjectName) → name_of_item one ≡ o → option_and_then (λ name. option_and_then numbers (place_of earlier name)) o ≡ None → AllByRecursion (λ before. AreNamedApart before one) earlier
    by None is nothing = unnamed is earlier
    by (Some name) is nothing = All-weaker (λ before. is_item_named name before ≡ false) (λ before. AreNamedApart before one)
        (λ before other x y x_is y_is. apart before other x y x_is y_is) earlier (none_named earlier name (free (place_of earlier name) nothing))
      where
        apart : (before : Item) → is_item_named name before ≡ false → AreNamedApart before one
        apart before other x y x_is y_is =
            let same : name ≡ y = cc in
            rw (← same) (same_name-sym x name ∙ rw x_is at other)

-- an item repeats no name, and nor does one after it
neither : (first later : Option (ℕ × ℕ)) → option_or first later ≡ None → (first ≡ None) × (later ≡ None)
neither None later nothing = (refl, nothing)
neither (Some numbers) later nothing = cc

-- an item has none of the names of items before it
abbrev IsApartFrom : List Item → Item → Type 0
IsApartFrom earlier one = AllByRecursion (λ before. AreNamedApart before one) earlier

-- items that repeat no name are apart from those before them and from each other
apart_after : (earlier items : List Item) → repeat_after earlier items ≡ None → AllByRecursion (IsApartFrom earlier) items × AllLater AreNamedApart items
apart_after earlier [] nothing = (tt, tt)
apart_after earlier (one ∷ items) nothing =
    let parts = neither (repeated earlier one) (repeat_after (earlier ++ one ∷ []) items) nothing in
    let rest = apart_after (earlier ++ one ∷ []) items parts.1 in (
      (apart_from_earlier earlier one parts.0, All-weaker (IsApartFrom (earlier ++ one ∷ [])) (IsApartFrom earlier) (λ other all. (split other all).0) items rest.0),
      (All-weaker (IsApartFrom (earlier ++ one ∷ [])) (AreNamedApart one) (λ other all. (split other all).1.0) items rest.0, rest.1),
    )
  where
    split : (other : Item) → IsApartFrom (earlier ++ one ∷ []) other → IsApartFrom earlier other × IsApartFrom (one ∷ []) other
    split other all = All-parts (λ before. AreNamedApart before other) earlier (one ∷ []) all

-- where no name is repeated, all items are apart
pub items_apart : (items : List Item) → first_repeat items ≡ None → AllLater AreNamedApart items
items_apart items nothing = (apart_after [] items nothing).1
