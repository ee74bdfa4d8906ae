-- Demands that are settled key by key. For `settle`.
use Rattle.std.proofs.Common.{◌≡◌, ℕ, List, [], ◌∷◌, ◌++◌, Bool, true, false, ◌⊎◌, inl, inr, Option, Some, None, refl, sym, subst, ◌∙◌}
use Rattle.std.specs.declared.cmp.Ordering.TheVariants.{Less}
use Rattle.std.specs.Ordering.{nat_cmp, is_eq}
use Rattle.std.specs.List.{AllByRecursion}
use Rattle.std.specs.Cmp.Lexicographic.{slice_cmp, bytes_decides, nat_list_eq_equiv}
use Rattle.std.specs.List.Sorted.{IsStrictlySortedBy}
use Rattle.std.specs.Map as map_of
use Rattle.std.specs.Str.{bytes_eq}
use Rattle.std.proofs.lemmas.Map.Text.{is_eq-slice_cmp}
use Rattle.np_base.proofs.Options.{option_or-none}
use Rattle.np_base.specs.Texts.{compare_texts}
use Rattle.np_labels.proofs.PairLists.{value_of-push, keys_of-push}
use Rattle.np_labels.specs.Prelude.{Demand, Pair, admits, admits_unless_free, keys_of, value_of}

-- the demand on a key
abbrev pub demand_at : List (List ℕ × Demand) → List ℕ → Option Demand
demand_at entries key = map_of.lookup (λ other. is_eq (slice_cmp nat_cmp key other)) entries

-- The demand on the key is still to be settled and the key has no value so far, or the demand is met.
abbrev pub IsInTurn : List (List ℕ × Demand) → List (List ℕ × Demand) → List Pair → List ℕ → Type 0
IsInTurn entries left pairs key =
    ((demand_at left key ≡ demand_at entries key) × (value_of pairs key ≡ None))
    ⊎ ((demand_at left key ≡ None) × (admits_unless_free (demand_at entries key) (value_of pairs key) ≡ true))

-- an ascending list without one of its texts
all_without : (P : List ℕ → Type 0) (xs : List (List ℕ)) (y : List ℕ) (ys : List (List ℕ)) → AllByRecursion P (xs ++ y ∷ ys) → AllByRecursion P (xs ++ ys)
all_without P [] y ys all = all.1
all_without P (x ∷ xs) y ys all = (all.0, all_without P xs y ys all.1)

sorted_without : (xs : List (List ℕ)) (y : List ℕ) (ys : List (List ℕ)) → IsStrictlySortedBy compare_texts (xs ++ y ∷ ys) → IsStrictlySortedBy compare_texts (xs ++ ys)
unfolding IsStrictlySortedBy
sorted_without [] y ys sorted = sorted.1
sorted_without (x ∷ xs) y ys sorted = (all_without _ xs y ys sorted.0, sorted_without xs y ys sorted.1)

-- what stands behind a text of an ascending list is above it
above_rest : (xs : List (List ℕ)) (y : List ℕ) (ys : List (List ℕ)) → IsStrictlySortedBy compare_texts (xs ++ y ∷ ys) → AllByRecursion (λ other. compare_texts y other ≡ Less) ys
unfolding IsStrictlySortedBy
above_rest [] y ys sorted = sorted.0
above_rest (x ∷ xs) y ys sorted = above_rest xs y ys sorted.1

-- a key below all others has no demand among them
demand_at-below : (key : List ℕ) (entries : List (List ℕ × Demand)) → AllByRecursion (λ other. compare_texts key other ≡ Less) (map_of.keys_of entries) → demand_at entries key ≡ None
demand_at-below key [] all = refl
demand_at-below key (entry ∷ entries) all = rw all.0 (demand_at-below key entries all.1)

-- the invariant of the loop that settles the demands, over what is left of them
module _ (entries rest left : List (List ℕ × Demand)) (key : List ℕ) (demand : Demand) (is : left ≡ (key, demand) ∷ rest) (pairs : List Pair)
    (ascending : IsStrictlySortedBy compare_texts (keys_of pairs ++ map_of.keys_of left)) (in_turn : (other : List ℕ) → IsInTurn entries left pairs other) where
  turns : (other : List ℕ) → IsInTurn entries ((key, demand) ∷ rest) pairs other
  turns other = subst (λ (all : List (List ℕ × Demand)). IsInTurn entries all pairs other) is (in_turn other)

  sorted : IsStrictlySortedBy compare_texts (keys_of pairs ++ key ∷ map_of.keys_of rest)
  sorted = subst (λ (all : List (List ℕ × Demand)). IsStrictlySortedBy compare_texts (keys_of pairs ++ map_of.keys_of all)) is ascending

  -- the key that comes next has its demand, and no value so far
  next_turn : (demand_at entries key ≡ Some demand) × (value_of pairs key ≡ None)
  next_turn = by (turns key)
    where
      by : IsInTurn entries ((key, demand) ∷ rest) pairs key → (demand_at entries key ≡ Some demand) × (value_of pairs key ≡ None)
      by (inl pending) = (sym (rw (is_eq-slice_cmp key key, nat_list_eq_equiv.refl key) at pending.0), pending.1)
      by (inr done) = let found = rw (is_eq-slice_cmp key key, nat_list_eq_equiv.refl key) at done.0 in cc

  -- a later key stays as it is where its value does
  later_turn : (new : List Pair) (other : List ℕ) → bytes_eq key other ≡ false → value_of new other ≡ value_of pairs other → IsInTurn entries ((key, demand) ∷ rest) pairs other →
      IsInTurn entries rest new other
  later_turn new other apart kept (inl pending) =
      inl (rw (is_eq-slice_cmp other key, nat_list_eq_equiv.symm other key, apart) at pending.0, kept ∙ pending.1)
  later_turn new other apart kept (inr done) =
      inr (rw (is_eq-slice_cmp other key, nat_list_eq_equiv.symm other key, apart) at done.0, rw kept done.1)

  -- all keys are in turn once the demand on the key is met and the values of the others are kept
  all_turns : (new : List Pair) → admits demand (value_of new key) ≡ true → ((other : List ℕ) → bytes_eq key other ≡ false → value_of new other ≡ value_of pairs other) → (other : List ℕ) →
      IsInTurn entries rest new other
  all_turns new met kept other = by (bytes_eq key other) refl
    where
      done : IsInTurn entries rest new key
      done = inr (demand_at-below key rest (above_rest (keys_of pairs) key (map_of.keys_of rest) sorted), rw next_turn.0 met)

      by : (b : Bool) → bytes_eq key other ≡ b → IsInTurn entries rest new other
      by true same = subst (λ (k : List ℕ). IsInTurn entries rest new k) ((bytes_decides key other).0 same) done
      by false apart = later_turn new other apart (kept other apart) (turns other)

  -- the key is left out
  pub ascending_without : IsStrictlySortedBy compare_texts (keys_of pairs ++ map_of.keys_of rest)
  ascending_without = sorted_without (keys_of pairs) key (map_of.keys_of rest) sorted

  pub in_turn_without : admits demand None ≡ true → (other : List ℕ) → IsInTurn entries rest pairs other
  in_turn_without met = all_turns pairs (rw next_turn.1 met) (λ other apart. refl)

  -- the key has a value
  pub ascending_with : (value : List ℕ) → IsStrictlySortedBy compare_texts (keys_of (pairs ++ record { key = key; value = value } ∷ []) ++ map_of.keys_of rest)
  ascending_with value = subst (IsStrictlySortedBy compare_texts) (sym (keys_of-push pairs (record { key = key; value = value }) (map_of.keys_of rest))) sorted

  pub in_turn_with : (value : List ℕ) → admits demand (Some value) ≡ true → (other : List ℕ) → IsInTurn entries rest (pairs ++ record { key = key; value = value } ∷ []) other
  in_turn_with value met =
      all_turns (pairs ++ record { key = key; value = value } ∷ [])
      (rw (value_of-push pairs (record { key = key; value = value }) key, next_turn.1, nat_list_eq_equiv.refl key) met)
      (λ other apart. rw (value_of-push pairs (record { key = key; value = value }) other, apart) (option_or-none (value_of pairs other)))

  -- nothing meets the demand on the key
  pub clash_at : ((found : Option (List ℕ)) → admits demand found ≡ false) → (other : List ℕ) × ((found : Option (List ℕ)) → admits_unless_free (demand_at entries other) found ≡ false)
  clash_at clash = (key, λ found. rw next_turn.0 (clash found))
