-- What holds of one of the items of a list. For BeginLemmas, FewLemmas and 3 more.
use Rattle.std.proofs.Common.{◌≡◌, List, [], ◌∷◌, Bool, true, false, cond, ◌||◌, filter, refl, sym, ap, ◌∙◌, inl, inr, subst}
use Rattle.std.specs.List.{AllByRecursion, list_all, list_any}
use Rattle.std.proofs.lemmas.Bool.{and_parts, and_from}
use Rattle.np_rules.specs.Prelude.{IsAmong}

pub All-at : {X : Type 0} (P : X → Type 0) (x : X) (xs : List X) → IsAmong x xs → AllByRecursion P xs → P x
All-at P x [] among all = absurd among
All-at P x (y ∷ xs) (inl same) all = subst P (sym same) all.0
All-at P x (y ∷ xs) (inr among) all = All-at P x xs among all.1

pub All-from : {X : Type 0} (P : X → Type 0) (xs : List X) → ((x : X) → IsAmong x xs → P x) → AllByRecursion P xs
All-from P [] each = tt
All-from P (x ∷ xs) each = (each x (inl refl), All-from P xs (λ y among. each y (inr among)))

pub list_all-at : {X : Type 0} (test : X → Bool) (x : X) (xs : List X) → IsAmong x xs → list_all test xs ≡ true → test x ≡ true
list_all-at test x [] among all = absurd among
list_all-at test x (y ∷ xs) (inl same) all = ap test same ∙ (and_parts (test y) (list_all test xs) all).0
list_all-at test x (y ∷ xs) (inr among) all = list_all-at test x xs among (and_parts (test y) (list_all test xs) all).1

pub list_all-from : {X : Type 0} (test : X → Bool) (xs : List X) → ((x : X) → IsAmong x xs → test x ≡ true) → list_all test xs ≡ true
list_all-from test [] each = refl
list_all-from test (x ∷ xs) each = and_from (test x) (list_all test xs) (each x (inl refl)) (list_all-from test xs (λ y among. each y (inr among)))

pub list_any-at : {X : Type 0} (test : X → Bool) (x : X) (xs : List X) → IsAmong x xs → test x ≡ true → list_any test xs ≡ true
list_any-at test x [] among here = absurd among
list_any-at test x (y ∷ xs) (inl same) here = rw (ap test (sym same) ∙ here) refl
list_any-at test x (y ∷ xs) (inr among) here = by (test y) (list_any-at test x xs among here)
  where
    by : (b : Bool) → list_any test xs ≡ true → (b || list_any test xs) ≡ true
    by true rest = refl
    by false rest = rest

pub IsAmong-filter : {X : Type 0} (test : X → Bool) (x : X) (xs : List X) → IsAmong x xs → test x ≡ true → IsAmong x (filter test xs)
IsAmong-filter test x [] among here = absurd among
IsAmong-filter {X} test x (y ∷ xs) (inl same) here = subst (λ b. IsAmong x (cond b (y ∷ filter test xs) (filter test xs))) (sym (ap test (sym same) ∙ here)) (inl same)
IsAmong-filter test x (y ∷ xs) (inr among) here = by (test y) (IsAmong-filter test x xs among here)
  where
    by : (b : Bool) → IsAmong x (filter test xs) → IsAmong x (cond b (y ∷ filter test xs) (filter test xs))
    by true rest = inr rest
    by false rest = rest
