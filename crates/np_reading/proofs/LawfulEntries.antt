-- Entries of a map that are put in one after another. For LawfulPolicies and PriorityLemmas.
use Rattle.std.proofs.Common.{◌≡◌, ◌+◌, ◌<◌, ◌≤◌, List, [], ◌∷◌, length, map, get_or, Ordering, Less, Equal, Greater, fold, refl, ap, subst, ◌∙◌, arith}
use Rattle.std.specs.Prelude.{AllPairs}
use Rattle.std.specs.BTreeMap.{insert_entry}
use Rattle.std.specs.Cmp.{IsTotalOrder}
use Rattle.std.specs.List.{AllByRecursion}
use Rattle.std.specs.List.Sorted.{IsStrictlySortedBy}
use Rattle.std.specs.Map.{keys_of, values_of}
use Rattle.std.specs.Ordering.{match_ordering, ordering_reverse}
use Rattle.std.proofs.lemmas.List.{get_or-map, length-map}
use Rattle.std.proofs.lemmas.Map.Keys.{Less-from_sorted}
use Rattle.np_base.proofs.Each.{All-weaker}
use Rattle.np_reading.proofs.LawfulLists.{AllLater}

-- ---- one entry more

module _ {K X : Type 0} (R : K → K → Ordering) where
  length-insert_entry-le : (entries : List (K × X)) (k : K) (x : X) → length (insert_entry R entries k x) ≤ length entries + 1
  length-insert_entry-le [] k x = omega arith
  length-insert_entry-le (first ∷ entries) k x = by (R k first.0) (length-insert_entry-le entries k x)
    where
      by : (o : Ordering) → length (insert_entry R entries k x) ≤ length entries + 1 →
          length (match_ordering o ((k, x) ∷ first ∷ entries) ((first.0, x) ∷ entries) (first ∷ insert_entry R entries k x)) ≤ length (first ∷ entries) + 1
      by Less rest = omega arith
      by Equal rest = omega arith
      by Greater rest = omega arith

  all-insert_entry : (P : X → Type 0) (entries : List (K × X)) (k : K) (x : X) → AllByRecursion P (values_of entries) → P x → AllByRecursion P (values_of (insert_entry R entries k x))
  all-insert_entry P [] k x all here = (here, tt)
  all-insert_entry P (first ∷ entries) k x all here = by (R k first.0) (all-insert_entry P entries k x all.1 here)
    where
      by : (o : Ordering) → AllByRecursion P (values_of (insert_entry R entries k x)) →
          AllByRecursion P (values_of (match_ordering o ((k, x) ∷ first ∷ entries) ((first.0, x) ∷ entries) (first ∷ insert_entry R entries k x)))
      by Less rest = (here, all)
      by Equal rest = (here, all.1)
      by Greater rest = (all.0, rest)

  -- what stands so to all values stands so to them and to one more
  later-insert_entry : (S : X → X → Type 0) → ((x y : X) → S x y → S y x) → (entries : List (K × X)) (k : K) (x : X) → AllLater S (values_of entries) → AllByRecursion (S x) (values_of entries) →
      AllLater S (values_of (insert_entry R entries k x))
  later-insert_entry S flips [] k x all here = (tt, tt)
  later-insert_entry S flips (first ∷ entries) k x all here = by (R k first.0) (later-insert_entry S flips entries k x all.1 here.1)
    where
      by : (o : Ordering) → AllLater S (values_of (insert_entry R entries k x)) →
          AllLater S (values_of (match_ordering o ((k, x) ∷ first ∷ entries) ((first.0, x) ∷ entries) (first ∷ insert_entry R entries k x)))
      by Less rest = (here, all)
      by Equal rest = (here.1, all.1)
      by Greater rest = (all-insert_entry (S first.1) entries k x all.0 (flips x first.1 here.0), rest)

-- ---- keys in order

-- what is below a key is below all that the key is below
pub below-trans : {K : Type 0} {R : K → K → Ordering} → IsTotalOrder R → (low k : K) (ks : List K) → R low k ≡ Less → AllByRecursion (λ other. R k other ≡ Less) ks →
    AllByRecursion (λ other. R low other ≡ Less) ks
below-trans {K} {R} order low k ks below = All-weaker (λ other. R k other ≡ Less) (λ other. R low other ≡ Less) (λ other above. order.trans low k other below above) ks

module _ {K X : Type 0} {R : K → K → Ordering} (order : IsTotalOrder R) where
  below-insert_entry : (low : K) (entries : List (K × X)) (k : K) (x : X) → AllByRecursion (λ other. R low other ≡ Less) (keys_of entries) → R low k ≡ Less →
      AllByRecursion (λ other. R low other ≡ Less) (keys_of (insert_entry R entries k x))
  below-insert_entry low [] k x all below = (below, tt)
  below-insert_entry low (first ∷ entries) k x all below = by (R k first.0) (below-insert_entry low entries k x all.1 below)
    where
      by : (o : Ordering) → AllByRecursion (λ other. R low other ≡ Less) (keys_of (insert_entry R entries k x)) →
          AllByRecursion (λ other. R low other ≡ Less) (keys_of (match_ordering o ((k, x) ∷ first ∷ entries) ((first.0, x) ∷ entries) (first ∷ insert_entry R entries k x)))
      by Less rest = (below, all)
      by Equal rest = all
      by Greater rest = (all.0, rest)

  pub sorted-insert_entry : (entries : List (K × X)) (k : K) (x : X) → IsStrictlySortedBy R (keys_of entries) → IsStrictlySortedBy R (keys_of (insert_entry R entries k x))
  unfolding IsStrictlySortedBy
  sorted-insert_entry [] k x sorted = (tt, tt)
  sorted-insert_entry (first ∷ entries) k x sorted = by (R k first.0) refl (sorted-insert_entry entries k x sorted.1)
    where
      by : (o : Ordering) → R k first.0 ≡ o → IsStrictlySortedBy R (keys_of (insert_entry R entries k x)) →
          IsStrictlySortedBy R (keys_of (match_ordering o ((k, x) ∷ first ∷ entries) ((first.0, x) ∷ entries) (first ∷ insert_entry R entries k x)))
      by Less is rest = ((is, below-trans order k first.0 (keys_of entries) is sorted.0), sorted)
      by Equal is rest = sorted
      by Greater is rest = (below-insert_entry first.0 entries k x sorted.0 (order.antisymm first.0 k ∙ ap ordering_reverse is), rest)

-- ---- values under keys of their own

module _ {K X : Type 0} {R : K → K → Ordering} (exact : (a b : K) → R a b ≡ Equal → a ≡ b) (key : X → K) where
  keyed-insert_entry : (entries : List (K × X)) (x : X) → keys_of entries ≡ map key (values_of entries) →
      keys_of (insert_entry R entries (key x) x) ≡ map key (values_of (insert_entry R entries (key x) x))
  keyed-insert_entry [] x keyed = refl
  keyed-insert_entry (first ∷ entries) x keyed = by (R (key x) first.0) refl (keyed-insert_entry entries x tail)
    where
      head : first.0 ≡ key first.1
      head = cc

      tail : keys_of entries ≡ map key (values_of entries)
      tail = cc

      by : (o : Ordering) → R (key x) first.0 ≡ o → keys_of (insert_entry R entries (key x) x) ≡ map key (values_of (insert_entry R entries (key x) x)) →
          keys_of (match_ordering o ((key x, x) ∷ first ∷ entries) ((first.0, x) ∷ entries) (first ∷ insert_entry R entries (key x) x)) ≡ map key
          (values_of (match_ordering o ((key x, x) ∷ first ∷ entries) ((first.0, x) ∷ entries) (first ∷ insert_entry R entries (key x) x)))
      by Less is rest = cc
      by Equal is rest = let same : key x ≡ first.0 = exact (key x) first.0 is in cc
      by Greater is rest = cc

-- ---- all entries

module _ {K X : Type 0} {R : K → K → Ordering} (order : IsTotalOrder R) (exact : (a b : K) → R a b ≡ Equal → a ≡ b) (key : X → K) where
  -- entries and one more, under its own key
  abbrev pub with_value : List (K × X) → X → List (K × X)
  with_value entries x = insert_entry R entries (key x) x

  pub length-with_values-le : (entries : List (K × X)) (xs : List X) → length (fold with_value entries xs) ≤ length entries + length xs
  length-with_values-le entries [] = omega arith
  length-with_values-le entries (x ∷ xs) = omega (arith, length-with_values-le (with_value entries x) xs, length-insert_entry-le R entries (key x) x)

  pub all-with_values : (P : X → Type 0) (entries : List (K × X)) (xs : List X) → AllByRecursion P (values_of entries) → AllByRecursion P xs → AllByRecursion P (values_of (fold with_value entries xs))
  all-with_values P entries [] so_far all = so_far
  all-with_values P entries (x ∷ xs) so_far all = all-with_values P (with_value entries x) xs (all-insert_entry R P entries (key x) x so_far all.0) all.1

  sorted-with_values : (entries : List (K × X)) (xs : List X) → IsStrictlySortedBy R (keys_of entries) → IsStrictlySortedBy R (keys_of (fold with_value entries xs))
  sorted-with_values entries [] sorted = sorted
  sorted-with_values entries (x ∷ xs) sorted = sorted-with_values (with_value entries x) xs (sorted-insert_entry order entries (key x) x sorted)

  keyed-with_values : (entries : List (K × X)) (xs : List X) → keys_of entries ≡ map key (values_of entries) → keys_of (fold with_value entries xs) ≡ map key (values_of (fold with_value entries xs))
  keyed-with_values entries [] keyed = keyed
  keyed-with_values entries (x ∷ xs) keyed = keyed-with_values (with_value entries x) xs (keyed-insert_entry exact key entries x keyed)

  -- the values stand in the order of their keys
  pub sorted_values : (xs : List X) → IsStrictlySortedBy R (map key (values_of (fold with_value [] xs)))
  unfolding IsStrictlySortedBy
  sorted_values xs = subst (IsStrictlySortedBy R) (keyed-with_values [] xs refl) (sorted-with_values [] xs tt)

  -- each value stands so to all others
  pub later-with_values : (S : X → X → Type 0) → ((x y : X) → S x y → S y x) → (entries : List (K × X)) (xs : List X) → AllLater S (values_of entries) →
      AllByRecursion (λ x. AllByRecursion (S x) (values_of entries)) xs → AllLater S xs → AllLater S (values_of (fold with_value entries xs))
  later-with_values S flips entries [] so_far apart all = so_far
  later-with_values S flips entries (x ∷ xs) so_far apart all =
      later-with_values S flips (with_value entries x) xs (later-insert_entry R S flips entries (key x) x so_far apart.0) (others xs apart.1 all.0) all.1
    where
      others : (ys : List X) → AllByRecursion (λ y. AllByRecursion (S y) (values_of entries)) ys → AllByRecursion (S x) ys →
          AllByRecursion (λ y. AllByRecursion (S y) (values_of (with_value entries x))) ys
      others [] far near = tt
      others (y ∷ ys) far near = (all-insert_entry R (S y) entries (key x) x far.0 (flips x y near.0), others ys far.1 near.1)

-- two values of which one stands before the other have keys in this order
pub Less-from_sorted_keys : {K X : Type 0} (R : K → K → Ordering) (key : X → K) (xs : List X) → IsStrictlySortedBy R (map key xs) → AllPairs (λ a b. R (key a) (key b) ≡ Less) xs
Less-from_sorted_keys R key xs sorted i j d before below =
    let inside : j < length (map key xs) = rw (length-map xs key) below in
    let first : get_or (map key xs) i (key d) ≡ key (get_or xs i d) = get_or-map key xs i d (key d) (omega arith) in
    let second : get_or (map key xs) j (key d) ≡ key (get_or xs j d) = get_or-map key xs j d (key d) below in
    rw (← first, ← second) (Less-from_sorted R (map key xs) i j (key d) sorted before inside)
