-- Lists of places, and tests that agree on the items of a list. For GroupSteps, Growing and 3 more.
use Rattle.std.proofs.Common.{◌≡◌, ℕ, ◌+◌, ◌<◌, List, [], ◌∷◌, ◌++◌, length, map, Bool, true, false, cond, ◌&&◌, ◌||◌, All, Some, None, nat_lt, refl, sym, subst, ap, ◌∙◌, arith, zero-add}
use Rattle.std.specs.Prelude.{filter, position}
use Rattle.std.specs.List.{list_any, position_from, position_or_len, range_with_len}
use Rattle.std.specs.List.Sorted.{IsStrictlyIncreasing}
use Rattle.std.specs.Option.{option_or}
use Rattle.std.proofs.Math.Bool.{or-true}
use Rattle.std.proofs.lemmas.Bool.{false_from_ne_true, lt-ltb, ltb-true}
use Rattle.std.proofs.lemmas.Iterator.Adapters.{position_from-zero}
use Rattle.std.proofs.lemmas.List.Elements.{All-head, All-tail}
use Rattle.std.proofs.lemmas.List.Folds.{list_any_at, Any-from_list_any}
use Rattle.std.proofs.lemmas.List.FromFn.{length-range_with_len, get_or-range_with_len}
use Rattle.std.proofs.lemmas.List.Sums.{passes_at_first}
use Rattle.std.proofs.lemmas.Option.{cond_some, none-some}
use Rattle.np_base.proofs.Lists.{range-more, position_from-push}
use Rattle.np_classes.specs.Classes.{places}

-- ---- tests

module _ {X : Type 0} (p q : X → Bool) where
  pub filter_agree_on : (xs : List X) → All (λ x. p x ≡ q x) xs → filter p xs ≡ filter q xs
  filter_agree_on [] agree = refl
  filter_agree_on (x ∷ xs) agree =
      rw (All-head (λ y. p y ≡ q y) x xs agree, filter_agree_on xs (All-tail (λ y. p y ≡ q y) x xs agree)) refl

  pub any_agree_on : (xs : List X) → All (λ x. p x ≡ q x) xs → list_any p xs ≡ list_any q xs
  any_agree_on [] agree = refl
  any_agree_on (x ∷ xs) agree =
      rw (All-head (λ y. p y ≡ q y) x xs agree, any_agree_on xs (All-tail (λ y. p y ≡ q y) x xs agree)) refl

  pub position_agree_on : (xs : List X) → All (λ x. p x ≡ q x) xs → position_or_len p xs ≡ position_or_len q xs
  position_agree_on [] agree = refl
  position_agree_on (x ∷ xs) agree =
      rw (All-head (λ y. p y ≡ q y) x xs agree, position_agree_on xs (All-tail (λ y. p y ≡ q y) x xs agree)) refl

  -- what passes one test passes a weaker one
  pub any_weaker : (xs : List X) → All (λ x. p x ≡ true → q x ≡ true) xs → list_any p xs ≡ true → list_any q xs ≡ true
  any_weaker [] weaker found = found
  any_weaker (x ∷ xs) weaker found =
      by (p x) refl (any_weaker xs (All-tail (λ y. p y ≡ true → q y ≡ true) x xs weaker))
    where
      by : (b : Bool) → p x ≡ b → (list_any p xs ≡ true → list_any q xs ≡ true) → list_any q (x ∷ xs) ≡ true
      by true is rest = rw (All-head (λ y. p y ≡ true → q y ≡ true) x xs weaker is) refl
      by false is rest = rw (rest (rw is at found)) (or-true (q x))

  -- a test of what passes another one
  pub any_filter : (xs : List X) → list_any q (filter p xs) ≡ list_any (λ x. p x && q x) xs
  any_filter [] = refl
  any_filter (x ∷ xs) = by (p x) (any_filter xs)
    where
      by : (b : Bool) → list_any q (filter p xs) ≡ list_any (λ y. p y && q y) xs → list_any q (cond b (x ∷ filter p xs) (filter p xs)) ≡ (b && q x || list_any (λ y. p y && q y) xs)
      by true rest = rw rest refl
      by false rest = rest

pub map_agree_on : {X Y : Type 0} (f g : X → Y) (xs : List X) → All (λ x. f x ≡ g x) xs → map f xs ≡ map g xs
map_agree_on f g [] agree = refl
map_agree_on f g (x ∷ xs) agree =
    rw (All-head (λ y. f y ≡ g y) x xs agree, map_agree_on f g xs (All-tail (λ y. f y ≡ g y) x xs agree)) refl

-- where an item passes, the first that does is in the list
pub position_within : {X : Type 0} (p : X → Bool) (xs : List X) → list_any p xs ≡ true → position_or_len p xs < length xs
position_within p [] found = let never : false ≡ true = found in cc
position_within p (x ∷ xs) found = by (p x) refl (position_within p xs)
  where
    by : (b : Bool) → p x ≡ b → (list_any p xs ≡ true → position_or_len p xs < length xs) → position_or_len p (x ∷ xs) < length (x ∷ xs)
    by true is rest = rw is (omega arith)
    by false is rest = rw is (omega (arith, rest (rw is at found)))

-- ---- places

-- one place more
pub places_more : (n : ℕ) → places (n + 1) ≡ places n ++ n ∷ []
places_more n = range-more 0 n n (zero-add n)

-- what holds below a count holds of each place
pub All-places : (P : ℕ → Type 0) (n : ℕ) → ((k : ℕ) → k < n → P k) → All P (places n)
All-places P n each k d below =
    let within = rw (length-range_with_len 0 n) at below in
    subst P (sym (get_or-range_with_len 0 n k d within ∙ zero-add k)) (each k within)

-- a place that passes
pub any_place : (test : ℕ → Bool) (n k : ℕ) → k < n → test k ≡ true → list_any test (places n) ≡ true
any_place test n k below passes =
    list_any_at test (places n) k 0 (rw (length-range_with_len 0 n) below) (rw (get_or-range_with_len 0 n k 0 below ∙ zero-add k) passes)

pub place_that_passes : (test : ℕ → Bool) (n : ℕ) → list_any test (places n) ≡ true → (k : ℕ) × (k < n) × (test k ≡ true)
place_that_passes test n found =
    let (at, place, below, is, passes) = Any-from_list_any test (places n) found in
    let within = rw (length-range_with_len 0 n) at below in
    (place, subst (λ (k : ℕ). k < n) (sym (zero-add at) ∙ sym (get_or-range_with_len 0 n at place within) ∙ is) within, passes)

-- places ascend
range_increases : (a n : ℕ) → IsStrictlyIncreasing (range_with_len a n)
range_increases a n k below =
    let within = rw (length-range_with_len a n) at below in
    rw (get_or-range_with_len a n k 0 (omega arith), get_or-range_with_len a n (k + 1) 0 within) (omega arith)

pub places_increase : (n : ℕ) → IsStrictlyIncreasing (places n)
places_increase = range_increases 0

-- ---- first places that pass

pub position_agree : {X : Type 0} (p q : X → Bool) (xs : List X) → All (λ x. p x ≡ q x) xs → position p xs ≡ position q xs
position_agree p q xs agree = ap (λ (n : ℕ). cond (nat_lt n (length xs)) (Some n) None) (position_agree_on p q xs agree)

-- where a first place passes, some item does, and its place is the number
pub at_position : {X : Type 0} (p : X → Bool) (xs : List X) (number : ℕ) → position p xs ≡ Some number → (list_any p xs ≡ true) × (position_or_len p xs ≡ number)
at_position p [] number is = absurd (none-some number is)
at_position p (x ∷ xs) number is =
    let (inside, at) = cond_some (nat_lt (position_or_len p (x ∷ xs)) (length (x ∷ xs))) (position_or_len p (x ∷ xs)) number is in
    let within = ltb-true (position_or_len p (x ∷ xs)) (length (x ∷ xs)) inside in
    (list_any_at p (x ∷ xs) (position_or_len p (x ∷ xs)) x within (passes_at_first p (x ∷ xs) x within), at)

pub no_position : {X : Type 0} (p : X → Bool) (xs : List X) → position p xs ≡ None → list_any p xs ≡ false
no_position p xs is =
    false_from_ne_true (list_any p xs) (λ found. none-some (position_or_len p xs)
    (sym is ∙ rw (lt-ltb (position_or_len p xs) (length xs) (position_within p xs found)) refl))

pub position-push : {X : Type 0} (p : X → Bool) (xs : List X) (last : X) → position p (xs ++ last ∷ []) ≡ option_or (position p xs) (cond (p last) (Some (length xs)) None)
position-push p xs last =
    position_from-zero p (xs ++ last ∷ []) ∙ position_from-push p 0 xs last
    ∙ ap (λ n. option_or (position_from p 0 xs) (cond (p last) (Some n) None)) (zero-add (length xs))
    ∙ ap (λ o. option_or o (cond (p last) (Some (length xs)) None)) (sym (position_from-zero p xs))
