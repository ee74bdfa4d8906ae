-- The labels of keys. For `is_listed`, `labels_of` and crates above.
use Rattle.std.proofs.Common.{◌≡◌, ℕ, ◌+◌, ◌<◌, List, [], ◌∷◌, ◌++◌, map, length, get_or, take, Bool, true, false, cond, Option, Some, None, ◌||◌, refl, sym, ap, subst, ◌∙◌, append-nil}
use Rattle.std.specs.Prelude.{filter}
use Rattle.std.specs.Bool.{Decides}
use Rattle.std.specs.Cmp.Lexicographic.{slice_cmp, bytes_decides}
use Rattle.std.specs.List.{AllByRecursion, cons_option, filter_map, list_all}
use Rattle.std.specs.List.Sorted.{IsStrictlySortedBy}
use Rattle.std.specs.Option.{option_map}
use Rattle.std.specs.Ordering.{is_lt, nat_cmp}
use Rattle.std.specs.Str.{bytes_eq}
use Rattle.std.specs.declared.cmp.Ordering.TheVariants.{Less}
use Rattle.std.proofs.lemmas.Bool.{and_from, and_parts}
use Rattle.std.proofs.lemmas.List.{map-append}
use Rattle.std.proofs.lemmas.List.Elements.{filter_more}
use Rattle.std.proofs.Math.Bool.{or-true}
use Rattle.np_base.specs.Texts.{compare_texts}
use Rattle.np_fold.specs.Prelude.{Label, Pair, label_of}
use Rattle.np_labels.proofs.Ascending.{same_by_values}
use Rattle.np_labels.specs.Prelude.{HasAscendingKeys, is_ascending, is_below, is_listed, keys_of, value_of}

abbrev label_with : List ℕ → List ℕ → Label
label_with key value = record { key = key; value = value }

-- a key is listed where it is the first
listed_first : (first : List ℕ) (keys : List (List ℕ)) → is_listed (first ∷ keys) first ≡ true
listed_first first keys = rw ((bytes_decides first first).1 refl) refl

-- what all keys pass, each listed one does
module _ (test : List ℕ → Bool) (P : List ℕ → Type 0) (each : (key : List ℕ) → Decides (test key) (P key)) where
  from_all : (keys : List (List ℕ)) → list_all test keys ≡ true → (key : List ℕ) → is_listed keys key ≡ true → P key
  from_all [] all key listed = let never : false ≡ true = listed in cc
  from_all (first ∷ keys) all key listed =
      let parts = and_parts (test first) (list_all test keys) all in
      by (bytes_eq first key) refl ((each first).0 parts.0) (from_all keys parts.1 key) listed
    where
      by : (b : Bool) → bytes_eq first key ≡ b → P first → (is_listed keys key ≡ true → P key) → (b || is_listed keys key) ≡ true → P key
      by true is here others listed = subst P ((bytes_decides first key).0 is) here
      by false is here others listed = others listed

  to_all : (keys : List (List ℕ)) → ((key : List ℕ) → is_listed keys key ≡ true → P key) → list_all test keys ≡ true
  to_all [] passed = refl
  to_all (first ∷ keys) passed =
      and_from (test first) (list_all test keys) ((each first).1 (passed first (listed_first first keys)))
      (to_all keys (λ key listed. passed key (rw listed (or-true (bytes_eq first key)))))

  pub Decides-listed : (keys : List (List ℕ)) → Decides (list_all test keys) ((key : List ℕ) → is_listed keys key ≡ true → P key)
  Decides-listed keys = (from_all keys, to_all keys)

-- labels with equal values at listed keys give the same
pub labels-from_values : (pairs others : List Pair) (keys : List (List ℕ)) → ((key : List ℕ) → is_listed keys key ≡ true → value_of pairs key ≡ value_of others key)
    → filter_map (label_of pairs) keys ≡ filter_map (label_of others) keys
labels-from_values pairs others [] agree = refl
labels-from_values pairs others (first ∷ keys) agree =
    let here : label_of pairs first ≡ label_of others first = ap (option_map (label_with first)) (agree first (listed_first first keys)) in
    rw (here, labels-from_values pairs others keys (λ key listed. agree key (rw listed (or-true (bytes_eq first key))))) refl

-- ---- the same as pairs

abbrev pair_with : List ℕ → List ℕ → Pair
pair_with key value = record { key = key; value = value }

abbrev pair_of : Label → Pair
pair_of label = pair_with label.key label.value

abbrev pub label_of_pair : Pair → Label
label_of_pair pair = label_with pair.key pair.value

-- a label of the key and value of a pair
pub label-made : (label : Label) (pair : Pair) → label.key ≡ pair.key → label.value ≡ pair.value → label ≡ label_of_pair pair
label-made label pair same equal = ap (λ (key : List ℕ). label_with key label.value) same ∙ ap (label_with pair.key) equal

abbrev pairs_at : List (List ℕ) → List Pair → List Pair
pairs_at keys pairs = filter_map (λ key. option_map (pair_with key) (value_of pairs key)) keys

pairs-are_labels : (keys : List (List ℕ)) (pairs : List Pair) → map pair_of (filter_map (label_of pairs) keys) ≡ pairs_at keys pairs
pairs-are_labels [] pairs = refl
pairs-are_labels (first ∷ keys) pairs = by (value_of pairs first) (pairs-are_labels keys pairs)
  where
    by : (found : Option (List ℕ)) → map pair_of (filter_map (label_of pairs) keys) ≡ pairs_at keys pairs
        → map pair_of (cons_option (option_map (label_with first) found) (filter_map (label_of pairs) keys)) ≡ cons_option (option_map (pair_with first) found) (pairs_at keys pairs)
    by None others = others
    by (Some value) others = ap (λ (rest : List Pair). pair_with first value ∷ rest) others

labels-are_pairs : (keys : List (List ℕ)) (pairs : List Pair) → map label_of_pair (pairs_at keys pairs) ≡ filter_map (label_of pairs) keys
labels-are_pairs [] pairs = refl
labels-are_pairs (first ∷ keys) pairs = by (value_of pairs first) (labels-are_pairs keys pairs)
  where
    by : (found : Option (List ℕ)) → map label_of_pair (pairs_at keys pairs) ≡ filter_map (label_of pairs) keys
        → map label_of_pair (cons_option (option_map (pair_with first) found) (pairs_at keys pairs)) ≡ cons_option (option_map (label_with first) found) (filter_map (label_of pairs) keys)
    by None others = others
    by (Some value) others = ap (λ (rest : List Label). label_with first value ∷ rest) others

-- ---- their values

none_either : (b : Bool) → cond b (let none : Option (List ℕ) = None in none) None ≡ None
none_either true = refl
none_either false = refl

-- listed keys have their values there, and no others have one
value_of-pairs_at : (keys : List (List ℕ)) (pairs : List Pair) (key : List ℕ) → value_of (pairs_at keys pairs) key ≡ cond (is_listed keys key) (value_of pairs key) None
value_of-pairs_at [] pairs key = refl
value_of-pairs_at (first ∷ keys) pairs key = by (value_of pairs first) refl (bytes_eq first key) refl (value_of-pairs_at keys pairs key)
  where
    by : (found : Option (List ℕ)) → value_of pairs first ≡ found → (b : Bool) → bytes_eq first key ≡ b → value_of (pairs_at keys pairs) key ≡ cond (is_listed keys key) (value_of pairs key) None
        → value_of (cons_option (option_map (pair_with first) found) (pairs_at keys pairs)) key ≡ cond (b || is_listed keys key) (value_of pairs key) None
    by None is true same others =
        let none : value_of pairs key ≡ None = subst (λ (k : List ℕ). value_of pairs k ≡ None) ((bytes_decides first key).0 same) is in
        others ∙ ap (λ (found : Option (List ℕ)). cond (is_listed keys key) found None) none ∙ none_either (is_listed keys key) ∙ sym none
    by None is false same others = others
    by (Some value) is true same others =
        let here : value_of pairs key ≡ Some value = subst (λ (k : List ℕ). value_of pairs k ≡ Some value) ((bytes_decides first key).0 same) is in
        rw same (sym here)
    by (Some value) is false same others = rw same others

-- the pairs whose keys are listed
abbrev pub are_listed : List (List ℕ) → List Pair → List Pair
are_listed keys pairs = filter (λ pair. is_listed keys pair.key) pairs

value_of-are_listed : (keys : List (List ℕ)) (pairs : List Pair) (key : List ℕ) → value_of (are_listed keys pairs) key ≡ cond (is_listed keys key) (value_of pairs key) None
value_of-are_listed keys [] key = sym (none_either (is_listed keys key))
value_of-are_listed keys (pair ∷ pairs) key = by (is_listed keys pair.key) refl (bytes_eq pair.key key) refl (value_of-are_listed keys pairs key)
  where
    by : (listed : Bool) → is_listed keys pair.key ≡ listed → (b : Bool) → bytes_eq pair.key key ≡ b → value_of (are_listed keys pairs) key ≡ cond (is_listed keys key) (value_of pairs key) None
        → value_of (cond listed (pair ∷ are_listed keys pairs) (are_listed keys pairs)) key ≡ cond (is_listed keys key) (cond b (Some pair.value) (value_of pairs key)) None
    by true is true same others =
        let here : is_listed keys key ≡ true = subst (λ (k : List ℕ). is_listed keys k ≡ true) ((bytes_decides pair.key key).0 same) is in
        rw (same, here) refl
    by true is false same others = rw same others
    by false is true same others =
        let away : is_listed keys key ≡ false = subst (λ (k : List ℕ). is_listed keys k ≡ false) ((bytes_decides pair.key key).0 same) is in
        others ∙ rw away refl
    by false is false same others = others

-- equal labels have equal values at listed keys
pub values-from_labels : (pairs others : List Pair) (keys : List (List ℕ)) → filter_map (label_of pairs) keys ≡ filter_map (label_of others) keys
    → (key : List ℕ) → is_listed keys key ≡ true → value_of pairs key ≡ value_of others key
values-from_labels pairs others keys same key listed =
    sym (value pairs) ∙ ap (λ (labels : List Label). value_of (map pair_of labels) key) same ∙ value others
  where
    value : (all : List Pair) → value_of (map pair_of (filter_map (label_of all) keys)) key ≡ value_of all key
    value all = ap (λ (found : List Pair). value_of found key) (pairs-are_labels keys all) ∙ value_of-pairs_at keys all key ∙ ap (λ (b : Bool). cond b (value_of all key) None) listed

-- ---- their order

all-pairs_at : (P : List ℕ → Type 0) (keys : List (List ℕ)) (pairs : List Pair) → AllByRecursion P keys → AllByRecursion P (keys_of (pairs_at keys pairs))
all-pairs_at P [] pairs all = tt
all-pairs_at P (first ∷ keys) pairs all = by (value_of pairs first) (all-pairs_at P keys pairs all.1)
  where
    by : (found : Option (List ℕ)) → AllByRecursion P (keys_of (pairs_at keys pairs)) → AllByRecursion P (keys_of (cons_option (option_map (pair_with first) found) (pairs_at keys pairs)))
    by None others = others
    by (Some value) others = (all.0, others)

HasAscendingKeys-pairs_at : (keys : List (List ℕ)) (pairs : List Pair) → IsStrictlySortedBy compare_texts keys → HasAscendingKeys (pairs_at keys pairs)
unfolding IsStrictlySortedBy
HasAscendingKeys-pairs_at [] pairs ascending = tt
HasAscendingKeys-pairs_at (first ∷ keys) pairs ascending = by (value_of pairs first) (HasAscendingKeys-pairs_at keys pairs ascending.1)
  where
    by : (found : Option (List ℕ)) → HasAscendingKeys (pairs_at keys pairs) → HasAscendingKeys (cons_option (option_map (pair_with first) found) (pairs_at keys pairs))
    by None others = others
    by (Some value) others = (all-pairs_at (λ other. compare_texts first other ≡ Less) keys pairs ascending.0, others)

all-are_listed : (P : List ℕ → Type 0) (keys : List (List ℕ)) (pairs : List Pair) → AllByRecursion P (keys_of pairs) → AllByRecursion P (keys_of (are_listed keys pairs))
all-are_listed P keys [] all = tt
all-are_listed P keys (pair ∷ pairs) all = by (is_listed keys pair.key) (all-are_listed P keys pairs all.1)
  where
    by : (listed : Bool) → AllByRecursion P (keys_of (are_listed keys pairs)) → AllByRecursion P (keys_of (cond listed (pair ∷ are_listed keys pairs) (are_listed keys pairs)))
    by true others = (all.0, others)
    by false others = others

HasAscendingKeys-are_listed : (keys : List (List ℕ)) (pairs : List Pair) → HasAscendingKeys pairs → HasAscendingKeys (are_listed keys pairs)
unfolding IsStrictlySortedBy
HasAscendingKeys-are_listed keys [] ascending = tt
HasAscendingKeys-are_listed keys (pair ∷ pairs) ascending = by (is_listed keys pair.key) (HasAscendingKeys-are_listed keys pairs ascending.1)
  where
    by : (listed : Bool) → HasAscendingKeys (are_listed keys pairs) → HasAscendingKeys (cond listed (pair ∷ are_listed keys pairs) (are_listed keys pairs))
    by true others = (all-are_listed (λ other. compare_texts pair.key other ≡ Less) keys pairs ascending.0, others)
    by false others = others

-- the labels of ascending keys are those of ascending pairs whose keys are listed
pub labels-listed : (keys : List (List ℕ)) (pairs : List Pair) → IsStrictlySortedBy (slice_cmp nat_cmp) keys → HasAscendingKeys pairs
    → map label_of_pair (are_listed keys pairs) ≡ filter_map (label_of pairs) keys
labels-listed keys pairs ascending in_order =
    ap (map label_of_pair)
    (same_by_values (are_listed keys pairs) (pairs_at keys pairs) (HasAscendingKeys-are_listed keys pairs in_order) (HasAscendingKeys-pairs_at keys pairs ascending)
    (λ key. value_of-are_listed keys pairs key ∙ sym (value_of-pairs_at keys pairs key)))
    ∙ labels-are_pairs keys pairs

-- ---- a key that is looked up

below_all : (key : List ℕ) (keys : List (List ℕ)) → AllByRecursion (λ other. compare_texts key other ≡ Less) keys → list_all (is_below key) keys ≡ true
below_all key [] all = refl
below_all key (other ∷ keys) all = and_from (is_below key other) (list_all (is_below key) keys) (ap is_lt all.0) (below_all key keys all.1)

pub is_ascending-from_sorted : (keys : List (List ℕ)) → IsStrictlySortedBy (slice_cmp nat_cmp) keys → is_ascending keys ≡ true
unfolding IsStrictlySortedBy
is_ascending-from_sorted [] ascending = refl
is_ascending-from_sorted (key ∷ keys) ascending =
    and_from (list_all (is_below key) keys) (is_ascending keys) (below_all key keys ascending.0) (is_ascending-from_sorted keys ascending.1)

-- ---- one more pair

module _ (keys : List (List ℕ)) (pairs : List Pair) (i : ℕ) (pair : Pair) (labels : List Label)
    (below : i < length pairs) (is : pair ≡ get_or pairs i pair) (so_far : labels ≡ map label_of_pair (are_listed keys (take i pairs))) where
  more : are_listed keys (take (i + 1) pairs) ≡ are_listed keys (take i pairs) ++ cond (is_listed keys pair.key) (pair ∷ []) []
  more =
      filter_more (λ (one : Pair). is_listed keys one.key) pairs i pair below
      ∙ ap (λ (one : Pair). are_listed keys (take i pairs) ++ cond (is_listed keys one.key) (one ∷ []) []) (sym is)

  pub listed-more : is_listed keys pair.key ≡ true → labels ++ label_of_pair pair ∷ [] ≡ map label_of_pair (are_listed keys (take (i + 1) pairs))
  listed-more found =
      ap (λ (all : List Label). all ++ label_of_pair pair ∷ []) so_far
      ∙ sym (map-append label_of_pair (are_listed keys (take i pairs)) (pair ∷ []))
      ∙ sym (ap (map label_of_pair) (more ∙ ap (λ (b : Bool). are_listed keys (take i pairs) ++ cond b (pair ∷ []) []) found))

  pub unlisted-more : is_listed keys pair.key ≡ false → labels ≡ map label_of_pair (are_listed keys (take (i + 1) pairs))
  unlisted-more found =
      so_far
      ∙ sym (ap (map label_of_pair) (more ∙ ap (λ (b : Bool). are_listed keys (take i pairs) ++ cond b (pair ∷ []) []) found ∙ append-nil (are_listed keys (take i pairs))))
