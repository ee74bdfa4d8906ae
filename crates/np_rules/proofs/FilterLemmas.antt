-- Items of which some are left out. For `admin_rules_toward`.
use Rattle.std.proofs.Common.{◌≡◌, ℕ, ◌+◌, ◌<◌, List, [], ◌∷◌, ◌++◌, Bool, true, false, ◌||◌, cond, find, filter, get_or, length, map, take, Option, Some, refl, sym, ap, ◌∙◌, if◌then◌else◌}
use Rattle.std.specs.List.{flat_map, list_any}
use Rattle.std.proofs.lemmas.List.Elements.{filter-append, filter_more}
use Rattle.std.proofs.lemmas.List.{map-append, take_more}

-- the first item that passes is found without some that do not
pub find_kept : {X : Type 0} (test keep : X → Bool) (xs : List X) → ((x : X) → keep x ≡ false → test x ≡ false) → find test (filter keep xs) ≡ find test xs
find_kept test keep [] fails = refl
find_kept {X} test keep (x ∷ xs) fails = go (keep x) (fails x) (find_kept test keep xs fails)
  where
    go : (b : Bool) → (b ≡ false → test x ≡ false) → find test (filter keep xs) ≡ find test xs →
        find test (if b then x ∷ filter keep xs else filter keep xs) ≡ (if test x then Some x else find test xs)
    go true is rest = ap (λ (found : Option X). if test x then Some x else found) rest
    go false is rest = rest ∙ sym (ap (λ (b : Bool). if b then Some x else find test xs) (is refl))

-- some item passes without them where some does
pub any_kept : {X : Type 0} (test keep : X → Bool) (xs : List X) → ((x : X) → keep x ≡ false → test x ≡ false) → list_any test (filter keep xs) ≡ list_any test xs
any_kept test keep [] fails = refl
any_kept {X} test keep (x ∷ xs) fails = go (keep x) (fails x) (any_kept test keep xs fails)
  where
    go : (b : Bool) → (b ≡ false → test x ≡ false) → list_any test (filter keep xs) ≡ list_any test xs → list_any test (if b then x ∷ filter keep xs else filter keep xs) ≡ (test x || list_any test xs)
    go true is rest = ap (λ (b : Bool). test x || b) rest
    go false is rest = rest ∙ sym (ap (λ (b : Bool). b || list_any test xs) (is refl))

-- those that pass are the same without some that do not
pub filter_kept : {X : Type 0} (test keep : X → Bool) (xs : List X) → ((x : X) → keep x ≡ false → test x ≡ false) → filter test (filter keep xs) ≡ filter test xs
filter_kept test keep [] fails = refl
filter_kept {X} test keep (x ∷ xs) fails = go (keep x) (fails x) (filter_kept test keep xs fails)
  where
    go : (b : Bool) → (b ≡ false → test x ≡ false) → filter test (filter keep xs) ≡ filter test xs →
        filter test (if b then x ∷ filter keep xs else filter keep xs) ≡ (if test x then x ∷ filter test xs else filter test xs)
    go true is rest = ap (λ (ys : List X). if test x then x ∷ ys else ys) rest
    go false is rest = rest ∙ sym (ap (λ (b : Bool). if b then x ∷ filter test xs else filter test xs) (is refl))

-- those that pass of one more
pub filter_next : {X : Type 0} (test : X → Bool) (xs : List X) (i : ℕ) (x : X) → i < length xs → x ≡ get_or xs i x →
    filter test (take (i + 1) xs) ≡ filter test (take i xs) ++ cond (test x) (x ∷ []) []
filter_next {X} test xs i x within is = filter_more test xs i x within ∙ ap (λ (y : X). filter test (take i xs) ++ cond (test y) (y ∷ []) []) (sym is)

-- the same of the images of items
pub filter_image : {X Y : Type 0} (f : X → Y) (test : Y → Bool) (xs : List X) (i : ℕ) (x : X) → i < length xs → x ≡ get_or xs i x →
    filter test (map f (take (i + 1) xs)) ≡ filter test (map f (take i xs)) ++ (if test (f x) then f x ∷ [] else [])
filter_image {X} f test xs i x within is =
    ap (λ (ys : List X). filter test (map f ys)) (take_more xs i x within ∙ ap (λ (y : X). take i xs ++ y ∷ []) (sym is))
    ∙ ap (filter test) (map-append f (take i xs) (x ∷ []))
    ∙ filter-append test (map f (take i xs)) (f x ∷ [])

-- what there is of items only where they pass is what there is of those that pass
pub flat_map_filter : {X Y : Type 0} (test : X → Bool) (f g : X → List Y) → ((x : X) → f x ≡ (if test x then g x else [])) → (xs : List X) → flat_map f xs ≡ flat_map g (filter test xs)
flat_map_filter test f g same [] = refl
flat_map_filter {X} {Y} test f g same (x ∷ xs) = ap (λ (ys : List Y). ys ++ flat_map f xs) (same x) ∙ go (test x) (flat_map_filter test f g same xs)
  where
    go : (b : Bool) → flat_map f xs ≡ flat_map g (filter test xs) → (if b then g x else []) ++ flat_map f xs ≡ flat_map g (if b then x ∷ filter test xs else filter test xs)
    go true rest = ap (λ (ys : List Y). g x ++ ys) rest
    go false rest = rest

pub filter-map : {X Y : Type 0} (f : X → Y) (keep : Y → Bool) (xs : List X) → filter keep (map f xs) ≡ map f (filter (λ x. keep (f x)) xs)
filter-map f keep [] = refl
filter-map {X} {Y} f keep (x ∷ xs) = go (keep (f x)) (filter-map f keep xs)
  where
    go : (b : Bool) → filter keep (map f xs) ≡ map f (filter (λ y. keep (f y)) xs) →
        (if b then f x ∷ filter keep (map f xs) else filter keep (map f xs)) ≡ map f (if b then x ∷ filter (λ y. keep (f y)) xs else filter (λ y. keep (f y)) xs)
    go true rest = ap (λ (ys : List Y). f x ∷ ys) rest
    go false rest = rest
