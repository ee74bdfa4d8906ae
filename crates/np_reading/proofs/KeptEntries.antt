-- Entries of a map under keys that differ are all kept. For OnceLemmas and PriorityLemmas.
use Rattle.std.proofs.Common.{◌≡◌, ◌≢◌, ℕ, ◌<◌, suc, List, [], ◌∷◌, ◌++◌, length, map, get_or, Ordering, Less, Equal, Greater, fold, refl, sym, subst, ◌∙◌, append-nil, arith}
use Rattle.std.specs.Prelude.{All, AllPairs, IsPermutation}
use Rattle.std.specs.BTreeMap.{insert_entry}
use Rattle.std.specs.Ordering.{match_ordering}
use Rattle.std.proofs.lemmas.List.{length-map, get_or-map}
use Rattle.std.proofs.lemmas.List.Elements.{All-cons, All-head, All-tail, All-nil}
use Rattle.std.proofs.lemmas.List.Sorted.{IsPermutation-refl, IsPermutation-cons, IsPermutation-trans, IsPermutation-middle, IsPermutation-append_left, IsPermutation-map, All-permutation}
use Rattle.std.proofs.lemmas.Simd.{map-map}

module _ {K Y : Type 0} {R : K → K → Ordering} (exact : (a b : K) → R a b ≡ Equal → a ≡ b) where
  -- what is put in under a new key is one entry more
  IsPermutation-insert_entry : (entries : List (K × Y)) (k : K) (y : Y) → All (λ entry. k ≢ entry.0) entries → IsPermutation ((k, y) ∷ entries) (insert_entry R entries k y)
  IsPermutation-insert_entry [] k y new = IsPermutation-refl ((k, y) ∷ [])
  IsPermutation-insert_entry (first ∷ entries) k y new = by (R k first.0) refl (IsPermutation-insert_entry entries k y (All-tail (λ entry. k ≢ entry.0) first entries new))
    where
      by : (o : Ordering) → R k first.0 ≡ o → IsPermutation ((k, y) ∷ entries) (insert_entry R entries k y) →
          IsPermutation ((k, y) ∷ first ∷ entries) (match_ordering o ((k, y) ∷ first ∷ entries) ((first.0, y) ∷ entries) (first ∷ insert_entry R entries k y))
      by Less is rest = IsPermutation-refl ((k, y) ∷ first ∷ entries)
      by Equal is rest = absurd (All-head (λ entry. k ≢ entry.0) first entries new (exact k first.0 is))
      by Greater is rest =
          IsPermutation-trans ((k, y) ∷ first ∷ entries) (first ∷ (k, y) ∷ entries) (first ∷ insert_entry R entries k y)
          (IsPermutation-middle ((k, y) ∷ []) first entries) (IsPermutation-cons first ((k, y) ∷ entries) (insert_entry R entries k y) rest)

module _ {K X Y : Type 0} {R : K → K → Ordering} (exact : (a b : K) → R a b ≡ Equal → a ≡ b) (key : X → K) (value : X → Y) where
  abbrev pub entry_of : X → K × Y
  entry_of x = (key x, value x)

  abbrev with_one : List (K × Y) → X → List (K × Y)
  with_one entries x = insert_entry R entries (key x) (value x)

  -- so are further ones, each under a key of its own
  kept-behind : (entries : List (K × Y)) (xs : List X) → All (λ x. All (λ entry. key x ≢ entry.0) entries) xs → AllPairs (λ a b. a ≢ b) (map key xs) →
      IsPermutation (entries ++ map entry_of xs) (fold with_one entries xs)
  kept-behind entries [] new apart = rw append-nil (IsPermutation-refl entries)
  kept-behind entries (x ∷ xs) new apart =
      IsPermutation-trans (entries ++ entry_of x ∷ map entry_of xs) (entry_of x ∷ (entries ++ map entry_of xs)) (fold with_one (with_one entries x) xs)
      (IsPermutation-middle entries (entry_of x) (map entry_of xs))
      (IsPermutation-trans (entry_of x ∷ (entries ++ map entry_of xs)) (with_one entries x ++ map entry_of xs) (fold with_one (with_one entries x) xs)
      (IsPermutation-append_left (map entry_of xs) (entry_of x ∷ entries) (with_one entries x) here)
      (kept-behind (with_one entries x) xs later (λ i j d before below. apart (suc i) (suc j) d (omega (arith, before)) (omega (arith, below)))))
    where
      here : IsPermutation (entry_of x ∷ entries) (with_one entries x)
      here = IsPermutation-insert_entry exact entries (key x) (value x) (All-head (λ x. All (λ entry. key x ≢ entry.0) entries) x xs new)

      differs : (i : ℕ) (d : X) → i < length xs → key (get_or xs i d) ≢ key x
      differs i d below same =
          apart 0 (suc i) (key d) (omega arith) (omega (arith, length-map xs key, below)) (sym (get_or-map key xs i d (key d) below ∙ same))

      later : All (λ y. All (λ entry. key y ≢ entry.0) (with_one entries x)) xs
      later i d below =
          All-permutation (λ entry. key (get_or xs i d) ≢ entry.0) (entry_of x ∷ entries) (with_one entries x) here
          (All-cons (λ entry. key (get_or xs i d) ≢ entry.0) (entry_of x) entries (differs i d below) (All-tail (λ x. All (λ entry. key x ≢ entry.0) entries) x xs new i d below))

  -- all entries are kept, in another order
  kept : (xs : List X) → AllPairs (λ a b. a ≢ b) (map key xs) → IsPermutation (map entry_of xs) (fold with_one [] xs)
  kept xs apart = kept-behind [] xs (λ i d below. All-nil (λ entry. key (get_or xs i d) ≢ entry.0)) apart

  pub keys-kept : (xs : List X) → AllPairs (λ a b. a ≢ b) (map key xs) → IsPermutation (map key xs) (map (λ (entry : K × Y). entry.0) (fold with_one [] xs))
  keys-kept xs apart =
      subst (λ (keys : List K). IsPermutation keys (map (λ (entry : K × Y). entry.0) (fold with_one [] xs)))
      (map-map (λ (entry : K × Y). entry.0) entry_of xs) (IsPermutation-map (λ (entry : K × Y). entry.0) (map entry_of xs) (fold with_one [] xs) (kept xs apart))

  pub values-kept : (xs : List X) → AllPairs (λ a b. a ≢ b) (map key xs) → IsPermutation (map value xs) (map (λ (entry : K × Y). entry.1) (fold with_one [] xs))
  values-kept xs apart =
      subst (λ (values : List Y). IsPermutation values (map (λ (entry : K × Y). entry.1) (fold with_one [] xs)))
      (map-map (λ (entry : K × Y). entry.1) entry_of xs) (IsPermutation-map (λ (entry : K × Y). entry.1) (map entry_of xs) (fold with_one [] xs) (kept xs apart))
