-- Products that stop at a greatest number. For `patterns_on` and `weight_of`.
use Rattle.std.proofs.Common.{◌≡◌, ℕ, zero, suc, ◌+◌, ◌*◌, ◌≤◌, ◌<◌, ◌^◌, ◌-◌, List, [], ◌∷◌, ◌++◌, map, min, take, length, get_or, refl, sym, ap, ◌∙◌, inl, inr, arith, lit<}
use Rattle.std.proofs.Math.Nat.{le-mul_of_pos_right, mul-le-mul_left, mul_assoc, mul_comm, one-le-mul}
use Rattle.std.proofs.lemmas.Bool.{cases_lt}
use Rattle.std.proofs.lemmas.List.{map-append, take_more}
use Rattle.np_exposure.specs.Prelude.{Namespace, Pod, Side, SidedRequirement, keys_on, patterns_at, patterns_on, product, weight}

min_low : (a m : ℕ) → a ≤ m → min a m ≡ a
min_low a m low = omega arith

min_high : (a m : ℕ) → m ≤ a → min a m ≡ m
min_high a m high = omega arith

-- a product is at least each of two factors that are positive
left_least : (a b m : ℕ) → 0 < b → m ≤ a → m ≤ a * b
left_least a b m some high = let more = le-mul_of_pos_right a some in omega arith

right_least : (a b m : ℕ) → 0 < a → m ≤ b → m ≤ a * b
right_least a b m some high = let more = le-mul_of_pos_right b some in omega (arith, mul_comm a b)

-- a product of two that stop at a greatest number stops there
pub min-product : (a b m : ℕ) → 0 < a → 0 < b → 0 < m → min (min a m * min b m) m ≡ min (a * b) m
min-product a b m some some' top = elim (cases_lt m a) [
  | inl over ↦
      rw (min_high a m (omega arith), min_high (a * b) m (left_least a b m some' (omega arith)))
      (min_high (m * min b m) m (left_least m (min b m) m (omega arith) (omega arith)))
  | inr under ↦ rw (min_low a m under) (elim (cases_lt m b) [
    | inl over ↦
        rw (min_high b m (omega arith), min_high (a * b) m (right_least a b m some (omega arith)))
        (min_high (a * m) m (right_least a m m some (omega arith)))
    | inr under' ↦ rw (min_low b m under') refl
  ])
]

-- ---- products of lists

product-push : (ns : List ℕ) (n : ℕ) → product (ns ++ n ∷ []) ≡ product ns * n
product-push [] n = omega arith
product-push (m ∷ ns) n = ap (λ rest. m * rest) (product-push ns n) ∙ sym (mul_assoc m (product ns) n)

abbrev AllSome : {X : Type 0} → (X → ℕ) → Type 0
AllSome {X} f = (x : X) → 0 < f x

product-some : {X : Type 0} (f : X → ℕ) → AllSome f → (xs : List X) → 0 < product (map f xs)
product-some f some [] = omega arith
product-some f some (x ∷ xs) = let both = one-le-mul {a = f x} {b = product (map f xs)} (some x) (product-some f some xs) in omega arith

product-take : {X : Type 0} (f : X → ℕ) → AllSome f → (n : ℕ) (xs : List X) → product (map f (take n xs)) ≤ product (map f xs)
product-take f some zero xs = product-some f some xs
product-take f some (suc n) [] = omega arith
product-take f some (suc n) (x ∷ xs) = mul-le-mul_left (f x) (product-take f some n xs)

-- ---- the patterns of the keys so far

patterns-some : (side : Side) (all : List SidedRequirement) → AllSome (patterns_at side all)
patterns-some side all key = omega arith

abbrev most : ℕ
most = 2 ^ 64 - 1

-- one key more
pub patterns-step : (side : Side) (all : List SidedRequirement) (keys : List (List ℕ)) (i patterns factor new : ℕ) (key seen : List ℕ) →
    patterns ≡ min (product (map (patterns_at side all) (take i keys))) (2 ^ 64 - 1) → i < length keys → key ≡ get_or keys i key → seen ≡ key →
    factor ≡ min (patterns_at side all seen) (2 ^ 64 - 1) → new ≡ min (patterns * factor) (2 ^ 64 - 1) → new ≡ min (product (map (patterns_at side all) (take (i + 1) keys))) (2 ^ 64 - 1)
patterns-step side all keys i patterns factor new key seen so_far within is same one more =
    let before = product (map (patterns_at side all) (take i keys)) in
    let here = patterns_at side all key in
    let factor_is : factor ≡ min here most = one ∙ ap (λ (k : List ℕ). min (patterns_at side all k) most) same in
    let taken : take (i + 1) keys ≡ take i keys ++ key ∷ [] = take_more keys i key within ∙ ap (λ (k : List ℕ). take i keys ++ k ∷ []) (sym is) in
    let all_is : product (map (patterns_at side all) (take (i + 1) keys)) ≡ before * here =
    ap (λ (ks : List (List ℕ)). product (map (patterns_at side all) ks)) taken ∙ ap product (map-append (patterns_at side all) (take i keys) (key ∷ [])) ∙ product-push
    (map (patterns_at side all) (take i keys)) here in
    more ∙ ap (λ n. min (n * factor) most) so_far ∙ ap (λ n. min (min before most * n) most) factor_is
    ∙ min-product before here most (product-some (patterns_at side all) (patterns-some side all) (take i keys)) (patterns-some side all key) (lit< tt)
    ∙ ap (λ n. min n most) (sym all_is)

-- where they are the greatest number, so are those of all keys
pub patterns-full : (side : Side) (all : List SidedRequirement) (keys : List (List ℕ)) (n patterns : ℕ) → patterns ≡ min (product (map (patterns_at side all) (take n keys))) (2 ^ 64 - 1) →
    patterns ≡ 2 ^ 64 - 1 → keys ≡ keys_on side all → 2 ^ 64 - 1 ≡ min (patterns_on side all) (2 ^ 64 - 1)
patterns-full side all keys n patterns so_far full is =
    let less : product (map (patterns_at side all) (take n keys)) ≤ product (map (patterns_at side all) keys) = product-take (patterns_at side all) (patterns-some side all) n keys in
    rw (← is) (omega arith)

-- both sides together
pub weight-by_sides : (all : List SidedRequirement) (namespaces pods new : ℕ) → namespaces ≡ min (patterns_on Namespace all) (2 ^ 64 - 1) → pods ≡ min (patterns_on Pod all) (2 ^ 64 - 1) →
    new ≡ min (namespaces * pods) (2 ^ 64 - 1) → new ≡ min (weight all) (2 ^ 64 - 1)
unfolding weight
weight-by_sides all namespaces pods new first second both =
    both ∙ ap (λ n. min (n * pods) most) first ∙ ap (λ n. min (min (patterns_on Namespace all) most * n) most) second
    ∙ min-product (patterns_on Namespace all) (patterns_on Pod all) most (product-some (patterns_at Namespace all) (patterns-some Namespace all) (keys_on Namespace all))
    (product-some (patterns_at Pod all) (patterns-some Pod all) (keys_on Pod all)) (lit< tt)
