-- Lists: what holds of each item and of each pair, an item at a place, and a list with one item more. For crates above.
use Rattle.std.proofs.Common.{zero, suc, List, ◌∷◌, All, AllPairs, arith, [], ◌++◌, Contains, ◌≡◌, ℕ, ◌+◌, refl, sym, ap, ◌∙◌, add-zero, suc-add, ◌<◌, length, Some, get_or, Bool, ◌||◌, take, true, false, cond, None, drop, ◌≤◌, fold, ◌==◌}
use Rattle.std.proofs.lemmas.List.Elements.{All-head, All-tail, All-append, All-weaker, All-nil}
use Rattle.std.proofs.lemmas.List.Kept.{AllPairs-cons}
use Rattle.std.specs.List.{range_with_len, slice_get, list_any, position_from, list_all, flat_map}
use Rattle.std.proofs.lemmas.Option.{slice_get-get_or}
use Rattle.std.proofs.lemmas.List.Folds.{list_any_more}
use Rattle.std.specs.Option.{option_or}
use Rattle.std.proofs.lemmas.List.{at_drop_more}
use Rattle.std.proofs.lemmas.Grind.{common_steps}
use Rattle.std.proofs.lemmas.Bool.{and_parts, and_from}
use Rattle.std.proofs.lemmas.Bool.Decides.{nat_tests}

pub AllPairs-head : {X : Type 0} (R : X → X → Type 0) (x : X) (xs : List X) → AllPairs R (x ∷ xs) → All (R x) xs
AllPairs-head R x xs pairs = λ k d within. pairs zero (suc k) d (omega arith) (omega arith)

pub AllPairs-tail : {X : Type 0} (R : X → X → Type 0) (x : X) (xs : List X) → AllPairs R (x ∷ xs) → AllPairs R xs
AllPairs-tail R x xs pairs = λ i j d before within. pairs (suc i) (suc j) d (omega arith) (omega arith)

-- what holds of the pairs of two lists and across them
pub AllPairs-append : {X : Type 0} (R : X → X → Type 0) (P Q : X → Type 0) → ((x y : X) → P x → Q y → R x y) → (xs ys : List X) → AllPairs R xs → AllPairs R ys → All P xs → All Q ys →
    AllPairs R (xs ++ ys)
AllPairs-append R P Q across [] ys in_xs in_ys of_xs of_ys = in_ys
AllPairs-append R P Q across (x ∷ xs) ys in_xs in_ys of_xs of_ys =
    AllPairs-cons R x (xs ++ ys)
    (All-append (R x) xs ys (AllPairs-head R x xs in_xs) (All-weaker Q (R x) (λ y of_y. across x y (All-head P x xs of_xs) of_y) ys of_ys))
    (AllPairs-append R P Q across xs ys (AllPairs-tail R x xs in_xs) in_ys (All-tail P x xs of_xs) of_ys)

-- what stands in the rest stands in the list
pub Contains-later : {X : Type 0} (x y : X) (ys : List X) → Contains ys x → Contains (y ∷ ys) x
Contains-later x y ys (k, within, is) = (suc k, omega arith, is)

-- one number more
pub range-more : (a n j : ℕ) → a + n ≡ j → range_with_len a (n + 1) ≡ range_with_len a n ++ j ∷ []
range-more a zero j is = let same : a ≡ j = sym (add-zero a) ∙ is in rw same refl
range-more a (suc n) j is = rw (suc-add n 1) (ap (λ (rest : List ℕ). a ∷ rest) (range-more (a + 1) n j (omega arith)))

-- the items of a list with one item more
pub slice_get-push_other : {X : Type 0} (xs : List X) (x : X) (q : ℕ) → q < length xs → slice_get (xs ++ x ∷ []) q ≡ slice_get xs q
slice_get-push_other [] x q within = absurd (omega arith)
slice_get-push_other (z ∷ zs) x zero within = refl
slice_get-push_other (z ∷ zs) x (suc q) within = slice_get-push_other zs x q (omega arith)

pub slice_get-push_same : {X : Type 0} (xs : List X) (x : X) → slice_get (xs ++ x ∷ []) (length xs) ≡ Some x
slice_get-push_same [] x = refl
slice_get-push_same (z ∷ zs) x = slice_get-push_same zs x

-- a place of a list has an item
pub slice_get-some : {X : Type 0} (xs : List X) (place : ℕ) → place < length xs → (x : X) × (slice_get xs place ≡ Some x)
slice_get-some [] place within = absurd (omega arith)
slice_get-some (x ∷ xs) place within = (get_or (x ∷ xs) place x, slice_get-get_or (x ∷ xs) place x within)

-- tests that agree on every item
pub list_any-agrees : {X : Type 0} (f g : X → Bool) → ((x : X) → f x ≡ g x) → (xs : List X) → list_any f xs ≡ list_any g xs
list_any-agrees f g same [] = refl
list_any-agrees f g same (x ∷ xs) = ap (λ b. b || list_any f xs) (same x) ∙ ap (λ b. g x || b) (list_any-agrees f g same xs)

-- the items so far and one more
pub list_any-next : {X : Type 0} (f : X → Bool) (xs : List X) (i : ℕ) (x : X) (before after : Bool) → i < length xs → x ≡ get_or xs i x → before ≡ list_any f (take i xs) → after ≡ (before || f x) →
    after ≡ list_any f (take (i + 1) xs)
list_any-next {X} f xs i x before after within is held put =
    put ∙ ap (λ (b : Bool). b || f x) held ∙ ap (λ (one : X). list_any f (take i xs) || f one) is ∙ sym (list_any_more f xs i x within)

-- a search goes on behind what it has searched
pub position_from-push : {X : Type 0} (t : X → Bool) (i : ℕ) (xs : List X) (x : X) → position_from t i (xs ++ x ∷ []) ≡ option_or (position_from t i xs) (cond (t x) (Some (i + length xs)) None)
position_from-push t i [] x = rw add-zero refl
position_from-push t i (y ∷ ys) x = by (t y) (position_from-push t (i + 1) ys x)
  where
    same : i + 1 + length ys ≡ i + length (y ∷ ys)
    same = omega arith

    by : (b : Bool) → position_from t (i + 1) (ys ++ x ∷ []) ≡ option_or (position_from t (i + 1) ys) (cond (t x) (Some (i + 1 + length ys)) None) →
        cond b (Some i) (position_from t (i + 1) (ys ++ x ∷ [])) ≡ option_or (cond b (Some i) (position_from t (i + 1) ys)) (cond (t x) (Some (i + length (y ∷ ys))) None)
    by true behind = refl
    by false behind = behind ∙ ap (λ n. option_or (position_from t (i + 1) ys) (cond (t x) (Some n) None)) same

-- the item at an index begins what is left from there
pub drop-item : {A : Type 0} (items : List A) (index : ℕ) (item : A) → index < length items → item ≡ get_or items index item → drop index items ≡ item ∷ drop (index + 1) items
drop-item items index item within is = at_drop_more (λ rest. rest) items index item within ∙ ap (λ first. first ∷ drop (index + 1) items) (sym is)

-- past the end nothing is left
pub drop-ended : {A : Type 0} (items : List A) (index : ℕ) → length items ≤ index → drop index items ≡ []
drop-ended items index past = grind (arith, common_steps)

-- a test that the items of both lists pass
pub list_all-both : {X : Type 0} (test : X → Bool) (xs ys : List X) → list_all test xs ≡ true → list_all test ys ≡ true → list_all test (xs ++ ys) ≡ true
list_all-both test [] ys front back = back
list_all-both test (x ∷ xs) ys front back =
    let parts = and_parts (test x) (list_all test xs) front in
    and_from (test x) (list_all test (xs ++ ys)) parts.0 (list_all-both test xs ys parts.1 back)

-- what holds of all that each number gives
pub All-numbers : {X : Type 0} (P : X → Type 0) (f : ℕ → List X) (from count end : ℕ) → from + count ≤ end → ((k : ℕ) → k < end → All P (f k)) → All P (flat_map f (range_with_len from count))
All-numbers P f from zero end within each = All-nil P
All-numbers P f from (suc count) end within each =
    All-append P (f from) (flat_map f (range_with_len (from + 1) count)) (each from (omega (arith, within)))
    (All-numbers P f (from + 1) count end (omega (arith, within)) each)

-- where no number passes, none is counted
pub count-none : (test : ℕ → Bool) → ((k : ℕ) → test k ≡ false) → (total : ℕ) (ks : List ℕ) → fold (λ so_far k. so_far + cond (test k) 1 0) total ks ≡ total
count-none test none total [] = refl
count-none test none total (k ∷ ks) = rw (none k, add-zero total) (count-none test none total ks)

-- a list with an item is not empty
pub some-more : (first : List ℕ) (values : List (List ℕ)) → (length (first ∷ values) == 0) ≡ false
some-more first values = grind (arith, nat_tests)

-- what stands in a list of one item is that item
pub Contains-one : {X : Type 0} (x y : X) → Contains (x ∷ []) y → x ≡ y
Contains-one x y (zero, within, is) = is
Contains-one x y (suc n, within, is) = absurd (omega arith)
