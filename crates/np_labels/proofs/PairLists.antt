-- Lists of pairs, and the entries of a map of texts. For `Labels::of`, `labels_have_last_values` and 2 more.
use Rattle.std.proofs.Common.{◌≡◌, ℕ, List, [], ◌∷◌, ◌++◌, map, fold, reverse, Bool, true, false, cond, Option, Some, None, refl, sym, ap, ◌∙◌}
use Rattle.std.specs.declared.cmp.Ordering.{Ordering}
use Rattle.std.specs.declared.cmp.Ordering.TheVariants.{Less, Equal, Greater}
use Rattle.std.specs.BTreeMap.{insert_entry}
use Rattle.std.specs.Cmp.Lexicographic.{slice_cmp, bytes_decides}
use Rattle.std.specs.Option.{option_or}
use Rattle.std.specs.Ordering.{nat_cmp, is_eq, match_ordering}
use Rattle.std.specs.Str.{bytes_eq}
use Rattle.std.proofs.lemmas.List.{reverse-append}
use Rattle.std.proofs.lemmas.List.Sums.{fold-append}
use Rattle.std.proofs.lemmas.Map.Text.{is_eq-slice_cmp}
use Rattle.np_base.proofs.Options.{option_or-none}
use Rattle.np_labels.specs.Prelude.{Pair, keys_of, labels_of, last_value_of, pair_of, value_of, with_pair}

-- ---- a pair at the end

-- it gives its key a value where it had none, and no other
pub value_of-push : (pairs : List Pair) (pair : Pair) (key : List ℕ) → value_of (pairs ++ pair ∷ []) key ≡ option_or (value_of pairs key) (cond (bytes_eq pair.key key) (Some pair.value) None)
value_of-push [] pair key = refl
value_of-push (first ∷ pairs) pair key = by (bytes_eq first.key key) (value_of-push pairs pair key)
  where
    by : (b : Bool) → value_of (pairs ++ pair ∷ []) key ≡ option_or (value_of pairs key) (cond (bytes_eq pair.key key) (Some pair.value) None) →
        cond b (Some first.value) (value_of (pairs ++ pair ∷ []) key) ≡ option_or (cond b (Some first.value) (value_of pairs key)) (cond (bytes_eq pair.key key) (Some pair.value) None)
    by true others = refl
    by false others = others

pub keys_of-push : (pairs : List Pair) (pair : Pair) (keys : List (List ℕ)) → keys_of (pairs ++ pair ∷ []) ++ keys ≡ keys_of pairs ++ pair.key ∷ keys
keys_of-push [] pair keys = refl
keys_of-push (first ∷ pairs) pair keys = ap (λ (others : List (List ℕ)). first.key ∷ others) (keys_of-push pairs pair keys)

-- ---- a pair in its place

-- texts that are both equal to a third are not apart
not_both : (text other key : List ℕ) → is_eq (slice_cmp nat_cmp text other) ≡ false → bytes_eq text key ≡ true → bytes_eq other key ≡ false
not_both text other key apart here = by (bytes_eq other key) refl
  where
    by : (b : Bool) → bytes_eq other key ≡ b → b ≡ false
    by false is = refl
    by true is =
        let same = (bytes_decides text key).0 here ∙ sym ((bytes_decides other key).0 is) in
        let equal = sym (is_eq-slice_cmp text other ∙ (bytes_decides text other).1 same) ∙ apart in
        cc

-- it decides its own key, and no other
pub value_of-with_pair : (pairs : List Pair) (pair : Pair) (key : List ℕ) → value_of (with_pair pairs pair) key ≡ cond (bytes_eq pair.key key) (Some pair.value) (value_of pairs key)
value_of-with_pair [] pair key = refl
value_of-with_pair (first ∷ pairs) pair key = by (slice_cmp nat_cmp pair.key first.key) refl (value_of-with_pair pairs pair key)
  where
    replaced : (b : Bool) → cond b (Some pair.value) (value_of pairs key) ≡ cond b (Some pair.value) (cond b (Some first.value) (value_of pairs key))
    replaced true = refl
    replaced false = refl

    passed : (b first_is : Bool) → (b ≡ true → first_is ≡ false) →
        cond first_is (Some first.value) (cond b (Some pair.value) (value_of pairs key)) ≡ cond b (Some pair.value) (cond first_is (Some first.value) (value_of pairs key))
    passed true true apart = let off = apart refl in cc
    passed true false apart = refl
    passed false true apart = refl
    passed false false apart = refl

    by : (o : Ordering) → slice_cmp nat_cmp pair.key first.key ≡ o → value_of (with_pair pairs pair) key ≡ cond (bytes_eq pair.key key) (Some pair.value) (value_of pairs key) →
        value_of (match_ordering o (pair ∷ first ∷ pairs) (record first { value = pair.value } ∷ pairs) (first ∷ with_pair pairs pair)) key ≡ cond (bytes_eq pair.key key) (Some pair.value)
        (value_of (first ∷ pairs) key)
    by Less is others = refl
    by Equal is others =
        let same = (bytes_decides pair.key first.key).0 (sym (is_eq-slice_cmp pair.key first.key) ∙ ap is_eq is) in
        rw same (replaced (bytes_eq first.key key))
    by Greater is others = rw others (passed (bytes_eq pair.key key) (bytes_eq first.key key) (not_both pair.key first.key key (ap is_eq is)))

or_assoc : (found : Option (List ℕ)) (b : Bool) (value : List ℕ) (before : Option (List ℕ)) →
    option_or found (cond b (Some value) before) ≡ option_or (option_or found (cond b (Some value) None)) before
or_assoc (Some other) b value before = refl
or_assoc None true value before = refl
or_assoc None false value before = refl

more_values : (made pairs : List Pair) (key : List ℕ) → value_of (fold with_pair made pairs) key ≡ option_or (last_value_of pairs key) (value_of made key)
more_values made [] key = refl
more_values made (pair ∷ pairs) key =
    more_values (with_pair made pair) pairs key ∙ rw (value_of-with_pair made pair key, reverse-append (pair ∷ []) pairs, value_of-push (reverse pairs) pair key)
    (or_assoc (last_value_of pairs key) (bytes_eq pair.key key) pair.value (value_of made key))

-- labels have the last value of each key
pub value_of-labels_of : (pairs : List Pair) (key : List ℕ) → value_of (labels_of pairs) key ≡ last_value_of pairs key
value_of-labels_of pairs key = more_values [] pairs key ∙ option_or-none (last_value_of pairs key)

-- ---- entries of a map

-- an entry put into a map is a pair put in
map-insert_entry : (entries : List (List ℕ × List ℕ)) (key value : List ℕ) →
    map pair_of (insert_entry (slice_cmp nat_cmp) entries key value) ≡ with_pair (map pair_of entries) (record { key = key; value = value })
map-insert_entry [] key value = refl
map-insert_entry (entry ∷ entries) key value = by (slice_cmp nat_cmp key entry.0) (map-insert_entry entries key value)
  where
    by : (o : Ordering) → map pair_of (insert_entry (slice_cmp nat_cmp) entries key value) ≡ with_pair (map pair_of entries) (record { key = key; value = value })
        → map pair_of (match_ordering o ((key, value) ∷ entry ∷ entries) ((entry.0, value) ∷ entries) (entry ∷ insert_entry (slice_cmp nat_cmp) entries key value)) ≡ match_ordering o
        (record { key = key; value = value } ∷ pair_of entry ∷ map pair_of entries) (record { key = entry.0; value = value } ∷ map pair_of entries)
        (pair_of entry ∷ with_pair (map pair_of entries) (record { key = key; value = value }))
    by Less others = refl
    by Equal others = refl
    by Greater others = ap (λ (pairs : List Pair). pair_of entry ∷ pairs) others

-- a map that has the pairs so far, and then is given one more, has the pairs again
pub labels_of-insert : (pairs : List Pair) (pair : Pair) (old new : List (List ℕ × List ℕ)) → new ≡ insert_entry (slice_cmp nat_cmp) old pair.key pair.value → map pair_of old ≡ labels_of pairs →
    map pair_of new ≡ labels_of (pairs ++ pair ∷ [])
labels_of-insert pairs pair old new inserted so_far =
    rw (inserted, map-insert_entry old pair.key pair.value, so_far) (sym (fold-append with_pair [] pairs (pair ∷ [])))
