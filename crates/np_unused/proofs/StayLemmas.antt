-- What is found in a list of which items are taken out. For ChangeLemmas.
use Rattle.std.proofs.Common.{◌≡◌, List, [], ◌∷◌, Bool, true, false, ◌||◌, map, filter, find, is_some, Option, Some, refl, sym, ap, ◌∙◌, if◌then◌else◌}
use Rattle.std.specs.List.{list_any}
use Rattle.std.specs.Option.{option_map}
use Rattle.std.proofs.lemmas.Bool.{false≢true}

-- the first item that passes is still found where it stays
pub first_stays : {X : Type 0} (test keep : X → Bool) (xs : List X) → ((x : X) → find test xs ≡ Some x → keep x ≡ true) → find test (filter keep xs) ≡ find test xs
first_stays test keep [] stays = refl
first_stays {X} test keep (x ∷ xs) stays = go (test x) refl (keep x) refl (first_stays test keep xs)
  where
    choice : Bool → Option X
    choice b = if b then Some x else find test xs

    go : (b : Bool) → test x ≡ b → (c : Bool) → keep x ≡ c → (((y : X) → find test xs ≡ Some y → keep y ≡ true) → find test (filter keep xs) ≡ find test xs) →
        find test (if c then x ∷ filter keep xs else filter keep xs) ≡ choice b
    go true is true kept later = ap (λ (b : Bool). if b then Some x else find test (filter keep xs)) is
    go true is false gone later = absurd (false≢true (sym gone ∙ stays x (ap choice is)))
    go false is true kept later = ap (λ (b : Bool). if b then Some x else find test (filter keep xs)) is ∙ later (λ y found. stays y (ap choice is ∙ found))
    go false is false gone later = later (λ y found. stays y (ap choice is ∙ found))

pub find_map : {X Y : Type 0} (f : X → Y) (test : Y → Bool) (xs : List X) → find test (map f xs) ≡ option_map f (find (λ x. test (f x)) xs)
find_map f test [] = refl
find_map {X} {Y} f test (x ∷ xs) = go (test (f x)) (find_map f test xs)
  where
    go : (b : Bool) → find test (map f xs) ≡ option_map f (find (λ y. test (f y)) xs) →
        (if b then Some (f x) else find test (map f xs)) ≡ option_map f (if b then Some x else find (λ y. test (f y)) xs)
    go true rest = refl
    go false rest = rest

-- some item passes where one is found
pub any_found : {X : Type 0} (test : X → Bool) (xs : List X) → list_any test xs ≡ is_some (find test xs)
any_found test [] = refl
any_found {X} test (x ∷ xs) = go (test x) (any_found test xs)
  where
    go : (b : Bool) → list_any test xs ≡ is_some (find test xs) → (b || list_any test xs) ≡ is_some (if b then Some x else find test xs)
    go true rest = refl
    go false rest = rest
