-- Where names stand in a list of items. For `note` and crates above.
use Rattle.std.proofs.Common.{◌≡◌, ℕ, List, [], ◌∷◌, ◌++◌, length, Bool, true, false, cond, Some, None, refl, sym, ap, subst, ◌∙◌, zero-add}
use Rattle.std.specs.Cmp.{first_so, second_so, tied_then}
use Rattle.std.specs.Cmp.Lexicographic.{slice_cmp, bytes_decides, nat_list_eq_equiv}
use Rattle.std.specs.List.{position_from}
use Rattle.std.specs.Option.{option_or}
use Rattle.std.specs.Ordering.{nat_cmp, is_eq, ordering_then}
use Rattle.std.proofs.lemmas.Iterator.Adapters.{position_from-zero}
use Rattle.std.proofs.lemmas.Map.Text.{is_eq-slice_cmp}
use Rattle.np_base.proofs.Lists.{position_from-push}
use Rattle.np_base.proofs.Options.{option_or-none}
use Rattle.np_owners.specs.Prelude.{HoldsPlaces, Item, ObjectName, compare_names, is_item_named, name_of_item, noted_place, place_of, same_name}

-- ---- names

-- the order of two names says whether they are the same
pub is_eq-compare_names : (a b : ObjectName) → is_eq (compare_names a b) ≡ same_name a b
is_eq-compare_names a b =
    let namespaces = slice_cmp nat_cmp a.namespace b.namespace in
    let names = slice_cmp nat_cmp a.name b.name in
    sym (tied_then (slice_cmp nat_cmp a.kind b.kind) (ordering_then namespaces names))
    ∙ rw (← tied_then namespaces names, is_eq-slice_cmp a.kind b.kind, is_eq-slice_cmp a.namespace b.namespace, is_eq-slice_cmp a.name b.name) refl

pub same_name-sym : (a b : ObjectName) → same_name a b ≡ same_name b a
same_name-sym a b = rw (nat_list_eq_equiv.symm a.kind b.kind, nat_list_eq_equiv.symm a.namespace b.namespace, nat_list_eq_equiv.symm a.name b.name) refl

abbrev of_parts : List ℕ → List ℕ → List ℕ → ObjectName
of_parts kind namespace name = record { kind = kind; namespace = namespace; name = name }

-- names that are the same are equal
pub equal_names : (a b : ObjectName) → same_name a b ≡ true → a ≡ b
equal_names a b same =
    let kinds = (bytes_decides a.kind b.kind).0 (first_so _ _ same) in
    let namespaces = (bytes_decides a.namespace b.namespace).0 (first_so _ _ (second_so _ _ same)) in
    let names = (bytes_decides a.name b.name).0 (second_so _ _ (second_so _ _ same)) in
    ap (λ (k : List ℕ). of_parts k a.namespace a.name) kinds
    ∙ ap (λ (n : List ℕ). of_parts b.kind n a.name) namespaces
    ∙ ap (λ (n : List ℕ). of_parts b.kind b.namespace n) names

-- ---- places

-- one more item
pub place_of-push : (items : List Item) (one : Item) (name : ObjectName) → place_of (items ++ one ∷ []) name ≡ option_or (place_of items name) (cond (is_item_named name one) (Some (length items)) None)
place_of-push items one name =
    let test = is_item_named name in
    position_from-zero test (items ++ one ∷ []) ∙ position_from-push test 0 items one
    ∙ ap (λ n. option_or (position_from test 0 items) (cond (test one) (Some n) None)) (zero-add (length items))
    ∙ ap (λ o. option_or o (cond (test one) (Some (length items)) None)) (sym (position_from-zero test items))

-- and one of a new name has its own place
pub HoldsPlaces-named : (earlier : List Item) (one : Item) (name : ObjectName) (before after : List (ObjectName × ℕ)) (place : ℕ) → length earlier ≡ place → name_of_item one ≡ Some name →
    noted_place before name ≡ None
    → ((other : ObjectName) → noted_place after other ≡ cond (is_eq (compare_names name other)) (Some place) (noted_place before other))
    → HoldsPlaces earlier before → HoldsPlaces (earlier ++ one ∷ []) after
HoldsPlaces-named earlier one name before after place at named free noted places other =
    noted other ∙ rw (is_eq-compare_names name other, ← at) (by (same_name name other) refl)
  where
    is_named-other : is_item_named other one ≡ same_name name other
    is_named-other = rw named (same_name-sym other name)

    by : (b : Bool) → same_name name other ≡ b → cond b (Some (length earlier)) (noted_place before other) ≡ place_of (earlier ++ one ∷ []) other
    by true same =
        let absent = sym (places other) ∙ subst (λ (n : ObjectName). noted_place before n ≡ None) (equal_names name other same) free in
        sym (place_of-push earlier one other ∙ rw (absent, is_named-other, same) refl)
    by false apart =
        places other ∙ sym (place_of-push earlier one other ∙ rw (is_named-other, apart) (option_or-none (place_of earlier other)))
