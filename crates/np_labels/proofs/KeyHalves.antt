-- The pair of a key, searched by halves among pairs whose keys ascend. For `find_value`.
use Rattle.std.proofs.Common.{◌≡◌, ℕ, zero, suc, ◌+◌, ◌<◌, List, [], ◌∷◌, length, get_or, false, inl, inr, Some, None, Ok, Err, refl, sym, ap, ◌∙◌, arith}
use Rattle.std.specs.Cmp.Lexicographic.{slice_cmp, nat_list_cmp_total, bytes_decides}
use Rattle.std.specs.List.{AllByRecursion}
use Rattle.std.specs.List.Sorted.{IsBinarySearchResult, IsNonDecreasingBy, IsSortedBy}
use Rattle.std.specs.Ordering.{nat_cmp, is_eq, is_lt, ordering_index, ordering_reverse}
use Rattle.std.specs.declared.cmp.Ordering.TheVariants.{Less, Greater}
use Rattle.std.specs.Str.{bytes_eq}
use Rattle.std.proofs.lemmas.Bool.{cases_lt}
use Rattle.std.proofs.lemmas.List.Sorted.{searchable_from_sorted}
use Rattle.std.proofs.lemmas.Map.Keys.{sorted_head, sorted_tail}
use Rattle.std.proofs.lemmas.Map.Text.{is_eq-slice_cmp}
use Rattle.np_base.proofs.Orders.{texts-differ}
use Rattle.np_base.specs.Texts.{compare_texts}
use Rattle.np_labels.proofs.Ascending.{bytes_eq-below}
use Rattle.np_labels.specs.Prelude.{HasAscendingKeys, Pair, keys_of, value_of}

-- a text that is below all keys is below that of each pair
below_at : (low : List ℕ) (pairs : List Pair) (i : ℕ) (d : Pair) → AllByRecursion (λ other. compare_texts low other ≡ Less) (keys_of pairs) → i < length pairs → compare_texts low (get_or pairs i d).key ≡ Less
below_at low [] i d all within = absurd (omega arith)
below_at low (first ∷ pairs) zero d all within = all.0
below_at low (first ∷ pairs) (suc i) d all within = below_at low pairs i d all.1 (omega arith)

-- a key is below that of each pair behind it
above : (pairs : List Pair) (i j : ℕ) (d : Pair) → HasAscendingKeys pairs → i < j → j < length pairs → compare_texts (get_or pairs i d).key (get_or pairs j d).key ≡ Less
above [] i j d ascending before within = absurd (omega arith)
above (first ∷ pairs) i zero d ascending before within = absurd (omega arith)
above (first ∷ pairs) zero (suc j) d ascending before within = below_at first.key pairs j d (sorted_head compare_texts first.key (keys_of pairs) ascending) (omega arith)
above (first ∷ pairs) (suc i) (suc j) d ascending before within = above pairs i j d (sorted_tail compare_texts first.key (keys_of pairs) ascending) (omega arith) (omega arith)

-- the pair at a place gives its key the value
value_at : (pairs : List Pair) (i : ℕ) (d : Pair) → HasAscendingKeys pairs → i < length pairs → value_of pairs (get_or pairs i d).key ≡ Some (get_or pairs i d).value
value_at [] i d ascending within = absurd (omega arith)
value_at (first ∷ pairs) zero d ascending within = rw ((bytes_decides first.key first.key).1 refl) refl
value_at (first ∷ pairs) (suc i) d ascending within =
    rw (bytes_eq-below first.key (get_or pairs i d).key (below_at first.key pairs i d (sorted_head compare_texts first.key (keys_of pairs) ascending) (omega arith)))
    (value_at pairs i d (sorted_tail compare_texts first.key (keys_of pairs) ascending) (omega arith))

-- a key that no pair has is not there
no_value : (pairs : List Pair) (key : List ℕ) → ((i : ℕ) (d : Pair) → i < length pairs → bytes_eq (get_or pairs i d).key key ≡ false) → value_of pairs key ≡ None
no_value [] key others = refl
no_value (first ∷ pairs) key others = rw (others 0 first (omega arith)) (no_value pairs key (λ i d within. others (suc i) d (omega arith)))

module _ (pairs : List Pair) (ascending : HasAscendingKeys pairs) (key : List ℕ) where
  not_lower : IsSortedBy (λ (a b : Pair). is_lt (compare_texts a.key b.key)) pairs
  not_lower k d low high =
      ap is_lt (nat_list_cmp_total.antisymm (get_or pairs (k + 1) d).key (get_or pairs k d).key ∙ ap ordering_reverse (above pairs k (k + 1) d ascending (omega arith) high))

  -- the comparisons with a key rise along the pairs
  rising : IsNonDecreasingBy (λ (pair : Pair). ordering_index (compare_texts pair.key key)) pairs
  rising = searchable_from_sorted nat_list_cmp_total (λ (pair : Pair). pair.key) pairs key not_lower

  -- what a search by halves found has the value of the key
  pub value-found : (place : ℕ) (d : Pair) → place < length pairs → IsBinarySearchResult (λ (pair : Pair). slice_cmp nat_cmp pair.key key) pairs (Ok place) →
      value_of pairs key ≡ Some (get_or pairs place d).value
  value-found place d within equal =
      let same : (get_or pairs place d).key ≡ key = (bytes_decides (get_or pairs place d).key key).0 (sym (is_eq-slice_cmp (get_or pairs place d).key key) ∙ ap is_eq (equal d)) in
      ap (value_of pairs) (sym same) ∙ value_at pairs place d ascending within

  -- where it found none the key has no value
  pub value-not_found : (place : ℕ) → IsBinarySearchResult (λ (pair : Pair). slice_cmp nat_cmp pair.key key) pairs (Err place) → value_of pairs key ≡ None
  value-not_found place apart = no_value pairs key other
    where
      other : (i : ℕ) (d : Pair) → i < length pairs → bytes_eq (get_or pairs i d).key key ≡ false
      other i d within = elim (cases_lt i place) [
        | inl before ↦ texts-differ (get_or pairs i d).key key Less ((apart rising).0 i d (omega arith) before) refl
        | inr after ↦ texts-differ (get_or pairs i d).key key Greater ((apart rising).1 i d after within) refl
      ]
