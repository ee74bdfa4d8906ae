-- Rules with their policies and places. For `count_rules` and crates above.
use Rattle.std.proofs.Common.{◌≡◌, ℕ, ◌+◌, ◌<◌, List, [], ◌∷◌, ◌++◌, Bool, true, false, ◌||◌, length, take, get_or, map, Some, refl, sym, ap, ◌∙◌, arith, if◌then◌else◌}
use Rattle.std.specs.List.{enumerate_from, flat_map, list_any, find}
use Rattle.std.specs.Option.{option_map, option_or}
use Rattle.std.proofs.lemmas.List.{take_more, length-append}
use Rattle.std.proofs.lemmas.Grind.{flat_map-append}
use Rattle.std.proofs.lemmas.List.Folds.{list_any-append, find-append}

append_nil : {X : Type 0} (xs : List X) → xs ++ [] ≡ xs
append_nil [] = refl
append_nil (x ∷ xs) = ap (λ ys. x ∷ ys) (append_nil xs)

-- the lists of one item more
pub flat_map-next : {X Y : Type 0} (f : X → List Y) (xs : List X) (i : ℕ) (x : X) → i < length xs → x ≡ get_or xs i x → flat_map f (take (i + 1) xs) ≡ flat_map f (take i xs) ++ f x
flat_map-next {X} f xs i x within is =
    let item : X → List X = λ y. take i xs ++ y ∷ [] in
    ap (flat_map f) (take_more xs i x within ∙ ap item (sym is)) ∙ flat_map-append f (take i xs) (x ∷ []) ∙ ap (λ ys. flat_map f (take i xs) ++ ys) (append_nil (f x))

-- so many items of one item more
pub length-next : {X Y : Type 0} (f : X → List Y) (xs : List X) (i : ℕ) (x : X) → i < length xs → x ≡ get_or xs i x →
    length (flat_map f (take (i + 1) xs)) ≡ length (flat_map f (take i xs)) + length (f x)
length-next f xs i x within is = ap length (flat_map-next f xs i x within is) ∙ length-append (flat_map f (take i xs)) (f x)

-- whether some item of one item more passes
pub list_any-next : {X Y : Type 0} (test : Y → Bool) (f : X → List Y) (xs : List X) (i : ℕ) (x : X) → i < length xs → x ≡ get_or xs i x →
    list_any test (flat_map f (take (i + 1) xs)) ≡ (list_any test (flat_map f (take i xs)) || list_any test (f x))
list_any-next test f xs i x within is = ap (list_any test) (flat_map-next f xs i x within is) ∙ list_any-append test (flat_map f (take i xs)) (f x)

-- the first of one item more that passes
pub find-next : {X Y : Type 0} (test : Y → Bool) (f : X → List Y) (xs : List X) (i : ℕ) (x : X) → i < length xs → x ≡ get_or xs i x →
    find test (flat_map f (take (i + 1) xs)) ≡ option_or (find test (flat_map f (take i xs))) (find test (f x))
find-next test f xs i x within is = ap (find test) (flat_map-next f xs i x within is) ∙ find-append test (flat_map f (take i xs)) (f x)

-- ---- numbered items

-- there are as many numbered items as items
pub length-numbered : {X Y : Type 0} (make : ℕ × X → Y) (n : ℕ) (xs : List X) → length (map make (enumerate_from n xs)) ≡ length xs
length-numbered make n [] = refl
length-numbered make n (x ∷ xs) = omega (arith, length-numbered make (n + 1) xs)

-- a test of items passes at some of the numbered ones where it does at some item
pub list_any-numbered : {X Y : Type 0} (make : ℕ × X → Y) (test : X → Bool) (placed_test : Y → Bool) → ((numbered : ℕ × X) → placed_test (make numbered) ≡ test numbered.1) → (n : ℕ) (xs : List X) →
    list_any placed_test (map make (enumerate_from n xs)) ≡ list_any test xs
list_any-numbered make test placed_test same n [] = refl
list_any-numbered make test placed_test same n (x ∷ xs) =
    ap (λ b. b || list_any placed_test (map make (enumerate_from (n + 1) xs))) (same (n, x)) ∙ ap (λ b. test x || b) (list_any-numbered make test placed_test same (n + 1) xs)

-- what is seen of the first numbered item that passes is what is seen of the first item
pub find-numbered : {X Y Z : Type 0} (make : ℕ × X → Y) (test : X → Bool) (placed_test : Y → Bool) (seen : X → Z) (placed_seen : Y → Z) →
    ((numbered : ℕ × X) → placed_test (make numbered) ≡ test numbered.1) → ((numbered : ℕ × X) → placed_seen (make numbered) ≡ seen numbered.1) → (n : ℕ) (xs : List X) →
    option_map placed_seen (find placed_test (map make (enumerate_from n xs))) ≡ option_map seen (find test xs)
find-numbered make test placed_test seen placed_seen same sees n [] = refl
find-numbered {X} {Y} {Z} make test placed_test seen placed_seen same sees n (x ∷ xs) =
    rw (same (n, x)) (go (test x) (find-numbered make test placed_test seen placed_seen same sees (n + 1) xs))
  where
    go : (b : Bool) → option_map placed_seen (find placed_test (map make (enumerate_from (n + 1) xs))) ≡ option_map seen (find test xs) →
        option_map placed_seen (if b then Some (make (n, x)) else find placed_test (map make (enumerate_from (n + 1) xs))) ≡ option_map seen (if b then Some x else find test xs)
    go true rest = ap {A = Z} Some (sees (n, x))
    go false rest = rest

-- the same two lists, or none
pub if_both : {X Y : Type 0} (P : List X → List Y → Type 0) (b : Bool) (xs : List X) (ys : List Y) → P xs ys → P [] [] → P (if b then xs else []) (if b then ys else [])
if_both P true xs ys some none = some
if_both P false xs ys some none = none

-- the items of numbered items
pub map-numbered : {X Y : Type 0} (make : ℕ × X → Y) (item_of : Y → X) → ((numbered : ℕ × X) → item_of (make numbered) ≡ numbered.1) → (n : ℕ) (xs : List X) →
    map item_of (map make (enumerate_from n xs)) ≡ xs
map-numbered make item_of same n [] = refl
map-numbered {X} make item_of same n (x ∷ xs) =
    ap (λ y. y ∷ map item_of (map make (enumerate_from (n + 1) xs))) (same (n, x)) ∙ ap (λ ys. x ∷ ys) (map-numbered make item_of same (n + 1) xs)

-- what is seen of the first item whose image passes is what is seen of the first image
pub find-map : {X Y Z : Type 0} (f : X → Y) (test : Y → Bool) (seen : Y → Z) (xs : List X) → option_map seen (find test (map f xs)) ≡ option_map (λ x. seen (f x)) (find (λ x. test (f x)) xs)
find-map f test seen [] = refl
find-map {X} {Y} {Z} f test seen (x ∷ xs) = go (test (f x)) (find-map f test seen xs)
  where
    go : (b : Bool) → option_map seen (find test (map f xs)) ≡ option_map (λ x. seen (f x)) (find (λ x. test (f x)) xs) →
        option_map seen (if b then Some (f x) else find test (map f xs)) ≡ option_map (λ x. seen (f x)) (if b then Some x else find (λ x. test (f x)) xs)
    go true rest = refl
    go false rest = rest
