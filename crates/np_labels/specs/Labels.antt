-- Labels as lists of pairs.
use Rattle.std.specs.Prelude.{◌≡◌, ℕ, List, [], ◌∷◌, map, reverse, fold, Option, Some, None, if◌then◌else◌}
use Rattle.std.specs.Ordering.{nat_cmp, match_ordering}
use Rattle.std.specs.Cmp.Lexicographic.{slice_cmp}
use Rattle.std.specs.List.Sorted.{IsStrictlySortedBy}
use Rattle.std.specs.Str.{bytes_eq}
use Rattle.np_labels.specs.Types.{Pair}

-- the value of a key: that of the first pair with it
abbrev pub value_of : List Pair → List ℕ → Option (List ℕ)
value_of [] key = None
value_of (pair ∷ pairs) key = if bytes_eq pair.key key then Some pair.value else value_of pairs key

-- the value of the last pair with the key
abbrev pub last_value_of : List Pair → List ℕ → Option (List ℕ)
last_value_of pairs key = value_of (reverse pairs) key

-- the keys, in the order of the pairs
abbrev pub keys_of : List Pair → List (List ℕ)
keys_of pairs = map (λ pair. pair.key) pairs

-- each key is below those after it, in the order of their bytes
abbrev pub HasAscendingKeys : List Pair → Type 0
HasAscendingKeys pairs = IsStrictlySortedBy (slice_cmp nat_cmp) (keys_of pairs)

-- the pairs with one more: in its place by key, or in place of the pair with its key
abbrev pub with_pair : List Pair → Pair → List Pair
with_pair [] pair = pair ∷ []
with_pair (first ∷ pairs) pair = match_ordering (slice_cmp nat_cmp pair.key first.key) (pair ∷ first ∷ pairs) (record first { value = pair.value } ∷ pairs) (first ∷ with_pair pairs pair)

-- the labels of these pairs: put in one after another
abbrev pub labels_of : List Pair → List Pair
labels_of pairs = fold with_pair [] pairs

-- a key and its value
abbrev pub pair_of : List ℕ × List ℕ → Pair
pair_of entry = record { key = entry.0; value = entry.1 }

-- both lists of labels have the same value of the key
abbrev pub AgreeOn : List Pair → List Pair → List ℕ → Type 0
AgreeOn one other key = value_of one key ≡ value_of other key
