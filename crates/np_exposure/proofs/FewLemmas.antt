-- There are at most as many rows as patterns of labels. For `rows_are_few`.
use Rattle.std.proofs.Common.{◌≡◌, ℕ, ◌+◌, ◌*◌, ◌≤◌, List, [], ◌∷◌, ◌++◌, length, map, filter, Bool, true, false, not, cond, ◌||◌, Option, Some, None, refl, sym, ap, ◌∙◌, arith, if◌then◌else◌}
use Rattle.std.specs.List.{AllByRecursion}
use Rattle.std.proofs.Math.Nat.{mul-le-mul_left, mul-le-mul_right, mul_assoc, mul-add, add-mul, one-le-mul}
use Rattle.std.proofs.lemmas.Bool.{false≢true, true≢false}
use Rattle.std.proofs.lemmas.List.{length-append, length-map, map-append}
use Rattle.std.proofs.lemmas.Nat.{mul-le}
use Rattle.np_exposure.proofs.BeginLemmas.{Stands-first}
use Rattle.np_exposure.proofs.FirstLemmas.{first-parts}
use Rattle.np_exposure.proofs.ListLemmas.{list_all-at}
use Rattle.np_exposure.proofs.RightLemmas.{some_stranger}
use Rattle.np_exposure.proofs.StandsLemmas.{HasLike, Stands, Stands-more}
use Rattle.np_exposure.specs.Prelude.{AreRows, AreRowsAt, AreRowsOf, Choices, ExposureRow, IsJoined, IsPossible, Namespace, Pod, Side, SidedRequirement, Stranger, always, apart, choices_at_first, choices_of, either, equal, is_at, is_name_key, keys_on, label_at, labels_on, looks_at, mentions, narrowed, negated, never, other_than, patterns_at, patterns_on, product, requirements, suits, values_at, weight, with_first}
use Rattle.np_rules.specs.Prelude.{IsAmong, PodSide}

-- how many patterns the choices have
abbrev size : List Choices → ℕ
size state = product (map (λ choices. length choices.found) state)

-- ---- a requirement parts the patterns

filter-fewer : {X : Type 0} (test : X → Bool) (xs : List X) → length (filter test xs) ≤ length xs
filter-fewer test [] = omega arith
filter-fewer test (x ∷ xs) = by (test x) (filter-fewer test xs)
  where
    by : (b : Bool) → length (filter test xs) ≤ length xs → length (cond b (x ∷ filter test xs) (filter test xs)) ≤ length (x ∷ xs)
    by true rest = omega arith
    by false rest = omega arith

filter-both : {X : Type 0} (one other : X → Bool) (xs : List X) → ((x : X) → other x ≡ not (one x)) → length (filter one xs) + length (filter other xs) ≡ length xs
filter-both one other [] opposite = omega arith
filter-both one other (x ∷ xs) opposite = by (one x) (other x) (opposite x) (filter-both one other xs opposite)
  where
    by : (b c : Bool) → c ≡ not b → length (filter one xs) + length (filter other xs) ≡ length xs →
        length (cond b (x ∷ filter one xs) (filter one xs)) + length (cond c (x ∷ filter other xs) (filter other xs)) ≡ length (x ∷ xs)
    by true true is rest = absurd (true≢false is)
    by true false is rest = omega arith
    by false true is rest = omega arith
    by false false is rest = absurd (false≢true is)

module _ (asked : SidedRequirement) where
  size-narrowed : (wanted : Bool) (state : List Choices) → size (narrowed wanted asked state) ≤ size state
  size-narrowed wanted [] = omega arith
  size-narrowed wanted (choices ∷ state) =
      mul-le (length (filter (suits wanted asked choices) choices.found)) (size (narrowed wanted asked state)) (length choices.found) (size state)
      (filter-fewer (suits wanted asked choices) choices.found) (size-narrowed wanted state)

  suits-opposite : (choices : Choices) → looks_at choices.side choices.key asked ≡ true → (found : Option (List ℕ)) → suits false asked choices found ≡ not (suits true asked choices found)
  suits-opposite choices looks found = rw looks refl

  -- products of which one factor is parted
  sum-below : (a b n x y z : ℕ) → a + b ≡ n → x ≤ z → y ≤ z → a * x + b * y ≤ n * z
  sum-below a b n x y z parted first second =
      let one = mul-le-mul_left a first in
      let two = mul-le-mul_left b second in
      let all : a * z + b * z ≡ n * z = sym (add-mul a b z) ∙ ap (λ m. m * z) parted in
      omega arith

  sum-within : (a b n x y z : ℕ) → a ≤ n → b ≤ n → x + y ≤ z → a * x + b * y ≤ n * z
  sum-within a b n x y z first second below =
      let one = mul-le-mul_right x first in
      let two = mul-le-mul_right y second in
      let all = mul-le-mul_left n below in
      let parts : n * (x + y) ≡ n * x + n * y = mul-add n x y in
      omega arith

  size-parted : (state : List Choices) → is_at state asked ≡ true → size (narrowed true asked state) + size (narrowed false asked state) ≤ size state
  size-parted [] at = absurd (false≢true at)
  size-parted (choices ∷ state) at = by (looks_at choices.side choices.key asked) refl at (size-parted state)
    where
      by : (b : Bool) → looks_at choices.side choices.key asked ≡ b → (b || is_at state asked) ≡ true →
          (is_at state asked ≡ true → size (narrowed true asked state) + size (narrowed false asked state) ≤ size state)
          → size (narrowed true asked (choices ∷ state)) + size (narrowed false asked (choices ∷ state)) ≤ size (choices ∷ state)
      by true looks here rest =
          sum-below (length (filter (suits true asked choices) choices.found)) (length (filter (suits false asked choices) choices.found)) (length choices.found) (size (narrowed true asked state))
          (size (narrowed false asked state)) (size state)
          (filter-both (suits true asked choices) (suits false asked choices) choices.found (suits-opposite choices looks)) (size-narrowed true state) (size-narrowed false state)
      by false elsewhere here rest =
          sum-within (length (filter (suits true asked choices) choices.found)) (length (filter (suits false asked choices) choices.found)) (length choices.found) (size (narrowed true asked state))
          (size (narrowed false asked state)) (size state)
          (filter-fewer (suits true asked choices) choices.found) (filter-fewer (suits false asked choices) choices.found) (rest here)

-- ---- rows

among-some : {X : Type 0} (x : X) (xs : List X) → IsAmong x xs → 1 ≤ length xs
among-some x [] among = absurd among
among-some x (y ∷ xs) among = omega arith

size-some : (all : List SidedRequirement) (s : Stranger) (state : List Choices) → AllByRecursion (HasLike all s) state → 1 ≤ size state
size-some all s [] likes = omega arith
size-some all s (choices ∷ state) likes =
    one-le-mul {a = length choices.found} {b = size state} (among-some likes.0.0 choices.found likes.0.1) (size-some all s state likes.1)

joined-length : (asked : SidedRequirement) (met unmet rows : List ExposureRow) → IsJoined asked met unmet rows → length rows ≤ length met + length unmet
joined-length asked met unmet rows (equal same is) = rw is (omega arith)
joined-length asked met unmet rows (apart differ is) =
    let parts = length-append (map (with_first asked) met) unmet in
    let mapped = length-map met (with_first asked) in
    rw is (omega arith)

module _ (side : PodSide) where
  few : (left assumed : List SidedRequirement) (state : List Choices) (rows : List ExposureRow) → Stands (mentions side) left assumed state → IsPossible assumed → AreRows side left assumed rows →
      length rows ≤ size state
  unfolding AreRows
  few [] assumed state rows stands possible are =
      let some = size-some (mentions side) possible.0 state (stands.complete possible.0 possible.1) in
      rw are.2 some
  few (asked ∷ left) assumed state rows stands possible are =
      by are (λ more can met. few left (asked ∷ assumed) (narrowed true asked state) more (Stands-more (mentions side) left assumed state true asked stands) can met)
      (λ more can unmet. few left (negated asked ∷ assumed) (narrowed false asked state) more (Stands-more (mentions side) left assumed state false asked stands) can unmet)
      (size-parted asked state (list_all-at (is_at state) asked (mentions side) stands.within.0 stands.covers))
    where
      by : AreRowsAt asked (IsPossible (asked ∷ assumed)) (IsPossible (negated asked ∷ assumed)) (AreRows side left (asked ∷ assumed)) (AreRows side left (negated asked ∷ assumed)) rows
          → ((more : List ExposureRow) → IsPossible (asked ∷ assumed) → AreRows side left (asked ∷ assumed) more → length more ≤ size (narrowed true asked state))
          → ((more : List ExposureRow) → IsPossible (negated asked ∷ assumed) → AreRows side left (negated asked ∷ assumed) more → length more ≤ size (narrowed false asked state))
          → size (narrowed true asked state) + size (narrowed false asked state) ≤ size state → length rows ≤ size state
      by (always can cannot met) one other parted = let first = one rows can met in omega arith
      by (never cannot can unmet) one other parted = let second = other rows can unmet in omega arith
      by (either can can' met unmet first second joined) one other parted =
          let here = one met can first in
          let there = other unmet can' second in
          let both = joined-length asked met unmet rows joined in
          omega arith

-- ---- the patterns at first

product-append : (xs ys : List ℕ) → product (xs ++ ys) ≡ product xs * product ys
product-append [] ys = omega arith
product-append (x ∷ xs) ys = ap (λ n. x * n) (product-append xs ys) ∙ sym (mul_assoc x (product xs) (product ys))

abbrev absent : List (Option (List ℕ))
absent = None ∷ []

absent-most : (b : Bool) → length (if b then [] else absent) ≤ 1
absent-most true = omega arith
absent-most false = omega arith

size-side : (all : List SidedRequirement) (side : Side) (keys : List (List ℕ)) → size (map choices_of (map (label_at side all) keys)) ≤ product (map (patterns_at side all) keys)
size-side all side [] = omega arith
size-side all side (key ∷ keys) =
    let values = values_at side key all in
    let front = length-append (map Some values) (Some (other_than values) ∷ (if is_name_key side key then [] else None ∷ [])) in
    let mapped = length-map values (λ (value : List ℕ). Some value) in
    let absent = absent-most (is_name_key side key) in
    mul-le (length (choices_of (label_at side all key)).found) (size (map choices_of (map (label_at side all) keys))) (patterns_at side all key) (product (map (patterns_at side all) keys))
    (omega arith) (size-side all side keys)

size-first : (all : List SidedRequirement) → size (choices_at_first all) ≤ weight all
unfolding weight
size-first all =
    let parts : size (choices_at_first all) ≡ size (map choices_of (labels_on Namespace all)) * size (map choices_of (labels_on Pod all)) =
    ap size (first-parts all)
    ∙ ap product (map-append (λ (choices : Choices). length choices.found) (map choices_of (labels_on Namespace all)) (map choices_of (labels_on Pod all)))
    ∙ product-append (map (λ (choices : Choices). length choices.found) (map choices_of (labels_on Namespace all)))
    (map (λ (choices : Choices). length choices.found) (map choices_of (labels_on Pod all))) in
    let most = mul-le (size (map choices_of (labels_on Namespace all))) (size (map choices_of (labels_on Pod all))) (patterns_on Namespace all) (patterns_on Pod all)
    (size-side all Namespace (keys_on Namespace all)) (size-side all Pod (keys_on Pod all)) in
    omega arith

pub rows-few : (side : PodSide) (rows : List ExposureRow) → AreRowsOf side rows → length rows ≤ weight (mentions side)
rows-few side rows are =
    let first = few side (requirements side) [] (choices_at_first (mentions side)) rows (Stands-first (mentions side)) some_stranger are in
    let most = size-first (mentions side) in
    omega arith
