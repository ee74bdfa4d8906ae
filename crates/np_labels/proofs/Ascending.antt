-- Lists of pairs whose keys ascend. For `Labels::of`, `labels_are_their_values` and 2 more.
use Rattle.std.proofs.Common.{◌≡◌, ℕ, List, [], ◌∷◌, Bool, true, false, Some, None, fold, refl, sym, ap, subst, ◌∙◌}
use Rattle.std.specs.declared.cmp.Ordering.{Ordering}
use Rattle.std.specs.declared.cmp.Ordering.TheVariants.{Less, Equal, Greater}
use Rattle.std.specs.Ordering.{is_eq, ordering_reverse, match_ordering}
use Rattle.std.specs.Cmp.Lexicographic.{nat_list_eq_equiv, nat_list_cmp_total, bytes_decides}
use Rattle.std.specs.List.{AllByRecursion}
use Rattle.std.specs.List.Sorted.{IsStrictlySortedBy}
use Rattle.std.specs.Str.{bytes_eq}
use Rattle.std.proofs.lemmas.Map.Keys.{sorted_head, sorted_tail}
use Rattle.std.proofs.lemmas.Map.Text.{is_eq-slice_cmp}
use Rattle.np_base.specs.Texts.{compare_texts}
use Rattle.np_labels.specs.Prelude.{HasAscendingKeys, Pair, keys_of, labels_of, value_of, with_pair}

-- a text is above one that is below it
flipped : (high low : List ℕ) → compare_texts high low ≡ Greater → compare_texts low high ≡ Less
flipped high low above = nat_list_cmp_total.antisymm low high ∙ ap ordering_reverse above

-- two texts of which one is below the other differ
pub bytes_eq-below : (low high : List ℕ) → compare_texts low high ≡ Less → bytes_eq low high ≡ false
bytes_eq-below low high below = sym (is_eq-slice_cmp low high) ∙ ap is_eq below

-- the key of the first pair has its value
pub value_of-head : (pair : Pair) (pairs : List Pair) → value_of (pair ∷ pairs) pair.key ≡ Some pair.value
value_of-head pair pairs = rw (nat_list_eq_equiv.refl pair.key) refl

-- a key below all others has no value among them
pub value_of-below : (key : List ℕ) (pairs : List Pair) → AllByRecursion (λ other. compare_texts key other ≡ Less) (keys_of pairs) → value_of pairs key ≡ None
value_of-below key [] all = refl
value_of-below key (pair ∷ pairs) all =
    rw (nat_list_eq_equiv.symm pair.key key, bytes_eq-below key pair.key all.0) (value_of-below key pairs all.1)

-- what is below a key is below all that the key is below
pub below-trans : (low key : List ℕ) (keys : List (List ℕ)) → compare_texts low key ≡ Less → AllByRecursion (λ other. compare_texts key other ≡ Less) keys → AllByRecursion (λ other. compare_texts low other ≡ Less) keys
below-trans low key [] below all = tt
below-trans low key (other ∷ keys) below all = (nat_list_cmp_total.trans low key other below all.0, below-trans low key keys below all.1)

-- a key below the first has no value
pub value_of-first : (key : List ℕ) (pair : Pair) (pairs : List Pair) → HasAscendingKeys (pair ∷ pairs) → compare_texts key pair.key ≡ Less → value_of (pair ∷ pairs) key ≡ None
value_of-first key pair pairs ascending below =
    value_of-below key (pair ∷ pairs) (below, below-trans key pair.key (keys_of pairs) below (sorted_head compare_texts pair.key (keys_of pairs) ascending))

-- the first key has no value among the others
pub value_of-others : (pair : Pair) (pairs : List Pair) → HasAscendingKeys (pair ∷ pairs) → value_of pairs pair.key ≡ None
value_of-others pair pairs ascending = value_of-below pair.key pairs (sorted_head compare_texts pair.key (keys_of pairs) ascending)

-- lists with the same first key and the same values have others with the same values
tails_same : (x y : Pair) (xs ys : List Pair) → HasAscendingKeys (x ∷ xs) → HasAscendingKeys (y ∷ ys) → x.key ≡ y.key → (key : List ℕ) → value_of (x ∷ xs) key ≡ value_of (y ∷ ys) key →
    value_of xs key ≡ value_of ys key
tails_same x y xs ys ascending_x ascending_y same key alike = by (bytes_eq x.key key) refl
  where
    by : (b : Bool) → bytes_eq x.key key ≡ b → value_of xs key ≡ value_of ys key
    by true is =
        let here = (bytes_decides x.key key).0 is in
        subst (λ (k : List ℕ). value_of xs k ≡ value_of ys k) here
        (value_of-others x xs ascending_x ∙ sym (subst (λ (k : List ℕ). value_of ys k ≡ None) (sym same) (value_of-others y ys ascending_y)))
    by false is =
        let left : value_of (x ∷ xs) key ≡ value_of xs key = rw is refl in
        let right : value_of (y ∷ ys) key ≡ value_of ys key = rw (← same, is) refl in
        sym left ∙ alike ∙ right

same_pair : (x y : Pair) → x.key ≡ y.key → x.value ≡ y.value → x ≡ y
same_pair x y key value =
    let with_key : List ℕ → Pair = λ k. record { key = k; value = x.value } in
    let with_value : List ℕ → Pair = λ v. record { key = y.key; value = v } in
    ap with_key key ∙ ap with_value value

-- lists with the same values are equal where their others are
same_cons : (x y : Pair) (xs ys : List Pair) → HasAscendingKeys (x ∷ xs) → HasAscendingKeys (y ∷ ys) → ((key : List ℕ) → value_of (x ∷ xs) key ≡ value_of (y ∷ ys) key) →
    (((key : List ℕ) → value_of xs key ≡ value_of ys key) → xs ≡ ys) → x ∷ xs ≡ y ∷ ys
same_cons x y xs ys ascending_x ascending_y alike others = by (compare_texts x.key y.key) refl
  where
    by : (o : Ordering) → compare_texts x.key y.key ≡ o → x ∷ xs ≡ y ∷ ys
    by Less is =
        let here = sym (value_of-head x xs) ∙ alike x.key ∙ value_of-first x.key y ys ascending_y is in cc
    by Greater is =
        let here = sym (value_of-head y ys) ∙ sym (alike y.key) ∙ value_of-first y.key x xs ascending_x (flipped x.key y.key is) in cc
    by Equal is =
        let same : x.key ≡ y.key = (bytes_decides x.key y.key).0 (sym (is_eq-slice_cmp x.key y.key) ∙ ap is_eq is) in
        let found : Some x.value ≡ Some y.value = sym (value_of-head x xs) ∙ alike x.key ∙ ap (value_of (y ∷ ys)) same ∙ value_of-head y ys in
        let value : x.value ≡ y.value = cc in
        let pairs = same_pair x y same value in
        let rest : xs ≡ ys = others (λ key. tails_same x y xs ys ascending_x ascending_y same key (alike key)) in
        cc

-- pairs with ascending keys are determined by the values of the keys
pub same_by_values : (xs ys : List Pair) → HasAscendingKeys xs → HasAscendingKeys ys → ((key : List ℕ) → value_of xs key ≡ value_of ys key) → xs ≡ ys
same_by_values [] [] ascending_x ascending_y alike = refl
same_by_values [] (y ∷ ys) ascending_x ascending_y alike =
    let here = alike y.key ∙ value_of-head y ys in cc
same_by_values (x ∷ xs) [] ascending_x ascending_y alike =
    let here = sym (value_of-head x xs) ∙ alike x.key in cc
same_by_values (x ∷ xs) (y ∷ ys) ascending_x ascending_y alike =
    same_cons x y xs ys ascending_x ascending_y alike
    (same_by_values xs ys (sorted_tail compare_texts x.key (keys_of xs) ascending_x) (sorted_tail compare_texts y.key (keys_of ys) ascending_y))

-- what is below the keys of pairs and below one more is below all of them together
below-with_pair : (low : List ℕ) (pairs : List Pair) (pair : Pair) → AllByRecursion (λ other. compare_texts low other ≡ Less) (keys_of pairs) → compare_texts low pair.key ≡ Less →
    AllByRecursion (λ other. compare_texts low other ≡ Less) (keys_of (with_pair pairs pair))
below-with_pair low [] pair all below = (below, tt)
below-with_pair low (first ∷ pairs) pair all below = by (compare_texts pair.key first.key) (below-with_pair low pairs pair all.1 below)
  where
    by : (o : Ordering) → AllByRecursion (λ other. compare_texts low other ≡ Less) (keys_of (with_pair pairs pair)) →
        AllByRecursion (λ other. compare_texts low other ≡ Less) (keys_of (match_ordering o (pair ∷ first ∷ pairs) (record first { value = pair.value } ∷ pairs) (first ∷ with_pair pairs pair)))
    by Less others = (below, all)
    by Equal others = all
    by Greater others = (all.0, others)

-- pairs with ascending keys and one more in its place have ascending keys
HasAscendingKeys-with_pair : (pairs : List Pair) (pair : Pair) → HasAscendingKeys pairs → HasAscendingKeys (with_pair pairs pair)
unfolding IsStrictlySortedBy
HasAscendingKeys-with_pair [] pair ascending = (tt, tt)
HasAscendingKeys-with_pair (first ∷ pairs) pair ascending = by (compare_texts pair.key first.key) refl (HasAscendingKeys-with_pair pairs pair ascending.1)
  where
    by : (o : Ordering) → compare_texts pair.key first.key ≡ o → HasAscendingKeys (with_pair pairs pair) →
        HasAscendingKeys (match_ordering o (pair ∷ first ∷ pairs) (record first { value = pair.value } ∷ pairs) (first ∷ with_pair pairs pair))
    by Less is others = ((is, below-trans pair.key first.key (keys_of pairs) is ascending.0), ascending)
    by Equal is others = ascending
    by Greater is others = (below-with_pair first.key pairs pair ascending.0 (flipped pair.key first.key is), others)

more_ascending : (made pairs : List Pair) → HasAscendingKeys made → HasAscendingKeys (fold with_pair made pairs)
more_ascending made [] ascending = ascending
more_ascending made (pair ∷ pairs) ascending = more_ascending (with_pair made pair) pairs (HasAscendingKeys-with_pair made pair ascending)

-- labels have ascending keys
pub HasAscendingKeys-labels_of : (pairs : List Pair) → HasAscendingKeys (labels_of pairs)
unfolding IsStrictlySortedBy
HasAscendingKeys-labels_of pairs = more_ascending [] pairs tt
