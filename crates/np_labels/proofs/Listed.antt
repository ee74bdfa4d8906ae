-- Steps of loops over listed values, for sets given as tests. For `ValueSet::among`, `insert_all` and `remove_all`.
use Rattle.std.proofs.Common.{◌≡◌, ℕ, ◌+◌, ◌<◌, List, length, take, get_or, Bool, true, false, not, cond, ◌&&◌, ◌||◌, refl, sym, ap, ◌∙◌}
use Rattle.std.specs.Ordering.{nat_cmp, is_eq}
use Rattle.std.specs.Cmp.Lexicographic.{slice_cmp, bytes_decides}
use Rattle.std.specs.Str.{bytes_eq}
use Rattle.std.proofs.lemmas.List.Folds.{list_any_more}
use Rattle.std.proofs.lemmas.Map.Text.{is_eq-slice_cmp}
use Rattle.np_labels.specs.Prelude.{is_listed}

-- one more listed value
is_listed-more : (listed : List (List ℕ)) (i : ℕ) (item : List ℕ) → i < length listed → item ≡ get_or listed i item → (value : List ℕ) →
    is_listed (take (i + 1) listed) value ≡ (is_listed (take i listed) value || bytes_eq item value)
is_listed-more listed i item below is value =
    list_any_more (λ (other : List ℕ). bytes_eq other value) listed i item below ∙ rw (← is) refl

put_in : (b initial before : Bool) → cond b true (initial || before) ≡ (initial || (before || b))
put_in true true true = refl
put_in true true false = refl
put_in true false true = refl
put_in true false false = refl
put_in false true true = refl
put_in false true false = refl
put_in false false true = refl
put_in false false false = refl

put_out : (b initial before : Bool) → cond b false (initial && not before) ≡ (initial && not (before || b))
put_out true true true = refl
put_out true true false = refl
put_out true false true = refl
put_out true false false = refl
put_out false true true = refl
put_out false true false = refl
put_out false false true = refl
put_out false false false = refl

kept_in : (b here before : Bool) → (b ≡ true → here ≡ true) → cond b true (here && before) ≡ (here && (before || b))
kept_in true true true fits = refl
kept_in true true false fits = refl
kept_in true false true fits = let off = fits refl in cc
kept_in true false false fits = let off = fits refl in cc
kept_in false true true fits = refl
kept_in false true false fits = refl
kept_in false false true fits = refl
kept_in false false false fits = refl

left_out : (b here before : Bool) → (b ≡ true → here ≡ false) → (here && before) ≡ (here && (before || b))
left_out true true true fits = refl
left_out true true false fits = let off = fits refl in cc
left_out true false true fits = refl
left_out true false false fits = refl
left_out false true true fits = refl
left_out false true false fits = refl
left_out false false true fits = refl
left_out false false false fits = refl

-- the order's test of two texts is their equality
same_test : (item value : List ℕ) (new : Bool) (then otherwise : Bool) → new ≡ cond (is_eq (slice_cmp nat_cmp item value)) then otherwise → new ≡ cond (bytes_eq item value) then otherwise
same_test item value new then otherwise updated = updated ∙ rw (is_eq-slice_cmp item value) refl

module _ (listed : List (List ℕ)) (i : ℕ) (item : List ℕ) (below : i < length listed) (is : item ≡ get_or listed i item) where
  -- a listed value goes into a set that has those before it
  pub more_step : (initial old new : List ℕ → Bool) → ((value : List ℕ) → new value ≡ cond (is_eq (slice_cmp nat_cmp item value)) true (old value)) →
      ((value : List ℕ) → old value ≡ (initial value || is_listed (take i listed) value)) → (value : List ℕ) → new value ≡ (initial value || is_listed (take (i + 1) listed) value)
  more_step initial old new updated so_far value =
      same_test item value _ _ _ (updated value) ∙ rw (so_far value, is_listed-more listed i item below is value) (put_in (bytes_eq item value) (initial value) (is_listed (take i listed) value))

  -- a listed value goes out of a set that lacks those before it
  pub less_step : (initial old new : List ℕ → Bool) → ((value : List ℕ) → new value ≡ cond (is_eq (slice_cmp nat_cmp item value)) false (old value)) →
      ((value : List ℕ) → old value ≡ (initial value && not (is_listed (take i listed) value))) → (value : List ℕ) → new value ≡ (initial value && not (is_listed (take (i + 1) listed) value))
  less_step initial old new updated so_far value =
      same_test item value _ _ _ (updated value) ∙ rw (so_far value, is_listed-more listed i item below is value) (put_out (bytes_eq item value) (initial value) (is_listed (take i listed) value))

  -- a listed value that is wanted goes into the set of those before it that are
  pub kept_step : (wanted old new : List ℕ → Bool) → wanted item ≡ true → ((value : List ℕ) → new value ≡ cond (is_eq (slice_cmp nat_cmp item value)) true (old value)) →
      ((value : List ℕ) → old value ≡ (wanted value && is_listed (take i listed) value)) → (value : List ℕ) → new value ≡ (wanted value && is_listed (take (i + 1) listed) value)
  kept_step wanted old new fits updated so_far value =
      same_test item value _ _ _ (updated value) ∙ rw (so_far value, is_listed-more listed i item below is value)
      (kept_in (bytes_eq item value) (wanted value) (is_listed (take i listed) value) (λ e. ap wanted (sym ((bytes_decides item value).0 e)) ∙ fits))

  -- a listed value that is not wanted changes nothing
  pub skipped_step : (wanted old : List ℕ → Bool) → wanted item ≡ false → ((value : List ℕ) → old value ≡ (wanted value && is_listed (take i listed) value)) → (value : List ℕ) →
      old value ≡ (wanted value && is_listed (take (i + 1) listed) value)
  skipped_step wanted old fits so_far value =
      so_far value ∙ rw (is_listed-more listed i item below is value)
      (left_out (bytes_eq item value) (wanted value) (is_listed (take i listed) value) (λ e. ap wanted (sym ((bytes_decides item value).0 e)) ∙ fits))
