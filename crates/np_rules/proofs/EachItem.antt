-- Lists whose items pass alike, and facts of lists that are joined. For FamilyLemmas, PlacedRules and 3 more.
use Rattle.std.proofs.Common.{◌≡◌, ℕ, ◌+◌, List, [], ◌∷◌, ◌++◌, Bool, ◌&&◌, ◌||◌, map, filter, Some, refl, ap, ◌∙◌, if◌then◌else◌}
use Rattle.std.specs.List.{AllByRecursion, enumerate_from, find, flat_map, list_all, list_any}
use Rattle.np_base.proofs.Each.{All-parts}
use Rattle.np_rules.specs.Prelude.{none_or_any}

-- ---- tests that agree on the items

pub list_any-same : {X : Type 0} (one other : X → Bool) (xs : List X) → AllByRecursion (λ x. one x ≡ other x) xs → list_any one xs ≡ list_any other xs
list_any-same one other [] same = refl
list_any-same one other (x ∷ xs) same = ap (λ b. b || list_any one xs) same.0 ∙ ap (λ b. other x || b) (list_any-same one other xs same.1)

pub list_all-same : {X : Type 0} (one other : X → Bool) (xs : List X) → AllByRecursion (λ x. one x ≡ other x) xs → list_all one xs ≡ list_all other xs
list_all-same one other [] same = refl
list_all-same one other (x ∷ xs) same = ap (λ b. b && list_all one xs) same.0 ∙ ap (λ b. other x && b) (list_all-same one other xs same.1)

pub none_or_any-same : {X : Type 0} (one other : X → Bool) (xs : List X) → AllByRecursion (λ x. one x ≡ other x) xs → none_or_any one xs ≡ none_or_any other xs
none_or_any-same one other [] same = refl
none_or_any-same one other (x ∷ xs) same = list_any-same one other (x ∷ xs) same

pub filter-same : {X : Type 0} (one other : X → Bool) (xs : List X) → AllByRecursion (λ x. one x ≡ other x) xs → filter one xs ≡ filter other xs
filter-same one other [] same = refl
filter-same one other (x ∷ xs) same =
    ap (λ b. if b then x ∷ filter one xs else filter one xs) same.0 ∙ ap (λ rest. if other x then x ∷ rest else rest) (filter-same one other xs same.1)

pub find-same : {X : Type 0} (one other : X → Bool) (xs : List X) → AllByRecursion (λ x. one x ≡ other x) xs → find one xs ≡ find other xs
find-same one other [] same = refl
find-same {X} one other (x ∷ xs) same =
    ap (λ b. if b then Some x else find one xs) same.0 ∙ ap (λ rest. if other x then Some x else rest) (find-same one other xs same.1)

-- ---- all items

pub All-each : {X : Type 0} (P : X → Type 0) → ((x : X) → P x) → (xs : List X) → AllByRecursion P xs
All-each P each [] = tt
All-each P each (x ∷ xs) = (each x, All-each P each xs)

-- the parts of three lists that are joined
pub All-three : {X : Type 0} (P : X → Type 0) (xs ys zs : List X) → AllByRecursion P (xs ++ ys ++ zs) → AllByRecursion P xs × (AllByRecursion P ys × AllByRecursion P zs)
All-three P xs ys zs all =
    let last = All-parts P (xs ++ ys) zs all in
    let first = All-parts P xs ys last.0 in
    (first.0, (first.1, last.1))

pub All-flat : {X Y : Type 0} (P : Y → Type 0) (f : X → List Y) (xs : List X) → AllByRecursion P (flat_map f xs) → AllByRecursion (λ x. AllByRecursion P (f x)) xs
All-flat P f [] all = tt
All-flat P f (x ∷ xs) all =
    let parts = All-parts P (f x) (flat_map f xs) all in
    (parts.0, All-flat P f xs parts.1)

pub All-both : {X : Type 0} (P Q : X → Type 0) (xs : List X) → AllByRecursion P xs → AllByRecursion Q xs → AllByRecursion (λ x. P x × Q x) xs
All-both P Q [] left right = tt
All-both P Q (x ∷ xs) left right = ((left.0, right.0), All-both P Q xs left.1 right.1)

pub All-numbered : {X Y : Type 0} (P : X → Type 0) (Q : Y → Type 0) (make : ℕ × X → Y) → ((numbered : ℕ × X) → P numbered.1 → Q (make numbered)) → (n : ℕ) (xs : List X) → AllByRecursion P xs →
    AllByRecursion Q (map make (enumerate_from n xs))
All-numbered P Q make each n [] all = tt
All-numbered P Q make each n (x ∷ xs) all = (each (n, x) all.0, All-numbered P Q make each (n + 1) xs all.1)
