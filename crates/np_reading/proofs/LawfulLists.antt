-- What is so of each element of a list, and of each two of them. For LawfulApart, LawfulEntries and 7 more.
use Rattle.std.proofs.Common.{◌≡◌, ◌≤◌, List, [], ◌∷◌, length, filter, map, Bool, true, false, cond, Option, Some, None, refl, arith}
use Rattle.std.specs.Prelude.{AllPairs, ⊤}
use Rattle.std.specs.List.{AllByRecursion, filter_map, cons_option, list_all}
use Rattle.std.proofs.lemmas.Bool.{and_from}
use Rattle.std.proofs.lemmas.List.Elements.{All-from_recursion}
use Rattle.std.proofs.lemmas.List.Kept.{AllPairs-cons}

-- each element stands so to those after it
abbrev pub AllLater : {X : Type 0} → (X → X → Type 0) → List X → Type 0
AllLater R [] = ⊤
AllLater R (x ∷ xs) = AllByRecursion (R x) xs × AllLater R xs

-- so do all two of them, by their places
pub AllPairs-from_later : {X : Type 0} (R : X → X → Type 0) (xs : List X) → AllLater R xs → AllPairs R xs
AllPairs-from_later R [] all = λ i j d before below. absurd (omega (arith, below))
AllPairs-from_later R (x ∷ xs) all = AllPairs-cons R x xs (All-from_recursion (R x) xs all.0) (AllPairs-from_later R xs all.1)

-- all elements pass a test
pub list_all-from_all : {X : Type 0} (p : X → Bool) (xs : List X) → AllByRecursion (λ x. p x ≡ true) xs → list_all p xs ≡ true
list_all-from_all p [] all = refl
list_all-from_all p (x ∷ xs) all = and_from (p x) (list_all p xs) all.0 (list_all-from_all p xs all.1)

-- all two elements of which both pass stand so to each other
pub later-filter : {X : Type 0} (p : X → Bool) (R S : X → X → Type 0) → ((x y : X) → p x ≡ true → p y ≡ true → R x y → S x y) → (xs : List X) → AllLater R xs → AllLater S (filter p xs)
later-filter {X} p R S one [] all = tt
later-filter {X} p R S one (x ∷ xs) all = by (p x) refl (later-filter p R S one xs all.1)
  where
    passing : p x ≡ true → (ys : List X) → AllByRecursion (R x) ys → AllByRecursion (S x) (filter p ys)
    passing here [] rest = tt
    passing here (y ∷ ys) rest = next (p y) refl (passing here ys rest.1)
      where
        next : (b : Bool) → p y ≡ b → AllByRecursion (S x) (filter p ys) → AllByRecursion (S x) (cond b (y ∷ filter p ys) (filter p ys))
        next true is others = (one x y here is rest.0, others)
        next false is others = others

    by : (b : Bool) → p x ≡ b → AllLater S (filter p xs) → AllLater S (cond b (x ∷ filter p xs) (filter p xs))
    by true is rest = (passing is xs all.0, rest)
    by false is rest = rest

-- what is so of the values of a function
pub later-map : {X Y : Type 0} (f : X → Y) (R : Y → Y → Type 0) → (xs : List X) → AllLater (λ x y. R (f x) (f y)) xs → AllLater R (map f xs)
later-map {X} {Y} f R [] all = tt
later-map {X} {Y} f R (x ∷ xs) all = (each xs all.0, later-map f R xs all.1)
  where
    each : (ys : List X) → AllByRecursion (λ y. R (f x) (f y)) ys → AllByRecursion (R (f x)) (map f ys)
    each [] rest = tt
    each (y ∷ ys) rest = (rest.0, each ys rest.1)

-- ---- what a function gives of the elements of a list

module _ {X Y : Type 0} (f : X → Option Y) where
  pub length-filter_map-le : (xs : List X) → length (filter_map f xs) ≤ length xs
  length-filter_map-le [] = omega arith
  length-filter_map-le (x ∷ xs) = by (f x) (length-filter_map-le xs)
    where
      by : (o : Option Y) → length (filter_map f xs) ≤ length xs → length (cons_option o (filter_map f xs)) ≤ length (x ∷ xs)
      by None rest = omega arith
      by (Some y) rest = omega arith

  pub all-filter_map : (P : X → Type 0) (Q : Y → Type 0) → ((x : X) (y : Y) → f x ≡ Some y → P x → Q y) → (xs : List X) → AllByRecursion P xs → AllByRecursion Q (filter_map f xs)
  all-filter_map P Q one [] all = tt
  all-filter_map P Q one (x ∷ xs) all = by (f x) refl (all-filter_map P Q one xs all.1)
    where
      by : (o : Option Y) → f x ≡ o → AllByRecursion Q (filter_map f xs) → AllByRecursion Q (cons_option o (filter_map f xs))
      by None is rest = rest
      by (Some y) is rest = (one x y is all.0, rest)

  pub later-filter_map : (R : X → X → Type 0) (S : Y → Y → Type 0) → ((x x' : X) (y y' : Y) → f x ≡ Some y → f x' ≡ Some y' → R x x' → S y y') → (xs : List X) → AllLater R xs →
      AllLater S (filter_map f xs)
  later-filter_map R S one [] all = tt
  later-filter_map R S one (x ∷ xs) all = by (f x) refl (later-filter_map R S one xs all.1)
    where
      by : (o : Option Y) → f x ≡ o → AllLater S (filter_map f xs) → AllLater S (cons_option o (filter_map f xs))
      by None is rest = rest
      by (Some y) is rest = (all-filter_map (R x) (S y) (λ x' y' is' so. one x x' y y' is is' so) xs all.0, rest)
