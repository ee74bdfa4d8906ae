-- How many rules are still to be looked at, from place to place. For `Rows::new`, `Rows::next` and 2 more.
use Rattle.std.proofs.Common.{◌≡◌, ◌≢◌, ◌<◌, ◌≤◌, ◌+◌, ◌-◌, ◌*◌, ◌/◌, ◌%◌, ℕ, zero, suc, List, [], Bool, true, false, Option, length, map, nat_lt, arith, refl, sym, ap, subst, inl, inr, ◌∙◌, if◌then◌else◌}
use Rattle.std.specs.List.{range_with_len}
use Rattle.std.proofs.Math.Nat.{div-lt_iff_lt-mul, mod-lt, mul-le-mul_left, mul-le-mul_right}
use Rattle.std.proofs.lemmas.Bool.{cases_lt, cases_order, lt-ltb, le-ltb}
use Rattle.std.proofs.lemmas.Nat.{div-add-mod', div-mul-add}
use Rattle.np_table.specs.Prelude.{CachedConns, EstateLists, IsOfSameSource, cached_count, due_at, due_from, greatest, most_rules, pair_count, place_count}
use Rattle.np_fold.specs.Prelude.{Folding}

-- ---- the greatest number

pub greatest-at : (f : ℕ → ℕ) (a n k : ℕ) → k < n → f (a + k) ≤ greatest (map f (range_with_len a n))
greatest-at f a zero k below = absurd (omega (arith, below))
greatest-at f a (suc n) zero below =
    let first : f (a + zero) ≡ f a = ap f (let same : a + zero ≡ a = omega arith in same) in
    omega (arith, first)
greatest-at f a (suc n) (suc k) below =
    let later : f (a + suc k) ≡ f (a + 1 + k) = ap f (let same : a + suc k ≡ a + 1 + k = omega arith in same) in
    let rest = greatest-at f (a + 1) n k (omega (arith, below)) in
    omega (arith, later, rest)

-- ---- what is due at a place

module _ (count kinds most : ℕ) where
  -- among the pairs
  due-pair : (unkept source destination : ℕ) → source < count → destination < count →
      due_at count kinds most unkept (source * count + destination) ≡ most * (4 * (kinds * (count - 1 - source) + unkept) + 2 * count)
  unfolding due_at
  due-pair unkept source destination low below =
      let place = source * count + destination in
      let more : (source + 1) * count ≤ count * count = mul-le-mul_right count (let up : source + 1 ≤ count = omega (arith, low) in up) in
      let is_pair : nat_lt place (pair_count count) ≡ true = lt-ltb place (count * count) (let up : place < count * count = omega (arith, more, below) in up) in
      ap (λ (b : Bool). if b then most * (4 * (kinds * (count - 1 - place / count) + unkept) + 2 * count) else most * (place_count count - place)) is_pair
      ∙ ap (λ (s : ℕ). most * (4 * (kinds * (count - 1 - s) + unkept) + 2 * count)) (div-mul-add source count destination below)

  -- and behind them
  due-behind : (unkept place : ℕ) → count * count ≤ place → due_at count kinds most unkept place ≡ most * (place_count count - place)
  unfolding due_at
  due-behind unkept place up =
      ap (λ (b : Bool). if b then most * (4 * (kinds * (count - 1 - place / count) + unkept) + 2 * count) else most * (place_count count - place)) (le-ltb place (count * count) up)

  -- ---- steps

  -- a product with a sum
  spread : (x u : ℕ) → most * (4 * (kinds * x + u) + 2 * count) ≡ most * (4 * (kinds * x) + 2 * count) + 4 * most * u
  spread x u = omega arith

  -- the next place of the same source
  due-same_source : (old new unkept unkept' source destination : ℕ) → source < count → destination + 1 < count → new + 4 * most * unkept' ≤ old + 4 * most * unkept →
      new + due_at count kinds most unkept' (source * count + destination + 1) ≤ old + due_at count kinds most unkept (source * count + destination)
  due-same_source old new unkept unkept' source destination low below steps =
      let x = count - 1 - source in
      let here = due-pair unkept source destination low (omega (arith, below)) ∙ spread x unkept in
      let next = ap (due_at count kinds most unkept') (let same : source * count + destination + 1 ≡ source * count + (destination + 1) = omega arith in same) ∙ due-pair unkept' source
      (destination + 1) low below ∙ spread x unkept' in
      omega (arith, here, next, steps)

  -- the first place of the next source
  due-next_source : (old new unkept unkept' source destination : ℕ) → source + 1 < count → destination + 1 ≡ count → new + 4 * most * unkept' ≤ old + 4 * most * unkept →
      new + due_at count kinds most kinds (source * count + destination + 1) ≤ old + due_at count kinds most unkept (source * count + destination)
  due-next_source old new unkept unkept' source destination low last steps =
      let x = count - 1 - (source + 1) in
      let here = due-pair unkept source destination (omega (arith, low)) (omega (arith, last)) ∙ spread (count - 1 - source) unkept in
      let next = ap (due_at count kinds most kinds) (let same : source * count + destination + 1 ≡ (source + 1) * count + 0 = omega (arith, last) in same) ∙ due-pair kinds (source + 1) 0 low
      (omega (arith, low)) ∙ spread x kinds in
      let more : kinds * (count - 1 - source) ≡ kinds * x + kinds = ap (λ (n : ℕ). kinds * n) (let same : count - 1 - source ≡ x + 1 = omega (arith, low) in same) ∙
      (let same : kinds * (x + 1) ≡ kinds * x + kinds = omega arith in same) in
      let same : most * (4 * (kinds * (count - 1 - source)) + 2 * count) ≡ most * (4 * (kinds * x) + 2 * count) + 4 * most * kinds =
      ap (λ (n : ℕ). most * (4 * n + 2 * count)) more ∙ spread x kinds in
      omega (arith, here, next, same, steps)

  -- the first place behind the pairs
  due-last_source : (old new unkept unkept' source destination : ℕ) → source + 1 ≡ count → destination + 1 ≡ count → new + 4 * most * unkept' ≤ old + 4 * most * unkept →
      new + due_at count kinds most kinds (source * count + destination + 1) ≤ old + due_at count kinds most unkept (source * count + destination)
  due-last_source old new unkept unkept' source destination low last steps =
      let x = count - 1 - source in
      let here = due-pair unkept source destination (omega (arith, low)) (omega (arith, last)) ∙ spread x unkept in
      let end : source * count + destination + 1 ≡ count * count = (let same : source * count + destination + 1 ≡ (source + 1) * count = omega (arith, last) in same) ∙ ap (λ (n : ℕ). n * count) low in
      let next = ap (due_at count kinds most kinds) end ∙ due-behind kinds (count * count) (omega arith) in
      let left : most * (place_count count - count * count) ≡ most * (2 * count) = ap (λ (n : ℕ). most * n) (let same : place_count count - count * count ≡ 2 * count = omega arith in same) in
      let some : most * (2 * count) ≤ most * (4 * (kinds * x) + 2 * count) = mul-le-mul_left most (omega arith) in
      omega (arith, here, next, left, some, steps)

  -- the next addresses
  due-address : (old new unkept unkept' place : ℕ) → count * count ≤ place → place < place_count count → new ≤ old + most →
      new + due_at count kinds most unkept' (place + 1) ≤ old + due_at count kinds most unkept place
  due-address old new unkept unkept' place up below steps =
      let here = due-behind unkept place up in
      let next = due-behind unkept' (place + 1) (omega (arith, up)) in
      let more : most * (place_count count - place) ≡ most * (place_count count - (place + 1)) + most =
      ap (λ (n : ℕ). most * n) (let same : place_count count - place ≡ place_count count - (place + 1) + 1 = omega (arith, below) in same)
      ∙ (let same : most * (place_count count - (place + 1) + 1) ≡ most * (place_count count - (place + 1)) + most = omega arith in same) in
      omega (arith, here, next, more, steps)

  -- what is due at a place among the pairs has what is due for the kinds of which nothing is kept
  due-unkept : (old new unkept source destination : ℕ) → source < count → destination < count → new ≤ old + 4 * most * unkept →
      new ≤ old + due_at count kinds most unkept (source * count + destination)
  due-unkept old new unkept source destination low below steps =
      let here = due-pair unkept source destination low below ∙ spread (count - 1 - source) unkept in
      omega (arith, here, steps)

-- before the first place
due-start : (count kinds most : ℕ) → due_at count kinds most kinds 0 ≡ (4 * count * kinds + 2 * count) * most
due-start zero kinds most = due-behind zero kinds most kinds 0 (omega arith) ∙ (let same : most * (place_count 0 - 0) ≡ (4 * 0 * kinds + 2 * 0) * most = omega arith in same)
due-start (suc n) kinds most =
    ap (due_at (suc n) kinds most kinds) (let same : 0 ≡ 0 * suc n + 0 = omega arith in same)
    ∙ due-pair (suc n) kinds most kinds 0 0 (omega arith) (omega arith)
    ∙ ap (λ (x : ℕ). most * (4 * (kinds * x + kinds) + 2 * suc n)) (let same : suc n - 1 - 0 ≡ n = omega arith in same)
    ∙ (let same : most * (4 * (kinds * n + kinds) + 2 * suc n) ≡ (4 * suc n * kinds + 2 * suc n) * most = omega arith in same)

-- ---- what is due of an estate

-- before the first place nothing is kept
pub due_from-start : (lists : EstateLists) (folding : Folding) →
    due_from lists folding 0 [] ≡ (4 * length folding.workloads * folding.kind_count + 2 * length folding.workloads) * most_rules lists folding
unfolding due_from
due_from-start lists folding =
    let count = length folding.workloads in
    ap (λ (unkept : ℕ). due_at count folding.kind_count (most_rules lists folding) unkept 0) (let same : folding.kind_count - 0 ≡ folding.kind_count = omega arith in same)
    ∙ due-start count folding.kind_count (most_rules lists folding)

-- ---- places

-- the source of a place among the pairs is a workload
pub source-below : (count place : ℕ) → place < count * count → place / count < count
source-below zero place below = absurd (omega (arith, below))
source-below (suc n) place below = (div-lt_iff_lt-mul {k = suc n} {x = place} {y = suc n} (omega arith)).1 below

-- and behind the pairs none is
pub source-behind : (count place : ℕ) → count * count ≤ place → place / count < count → ⊥
source-behind zero place up below = omega (arith, below)
source-behind (suc n) place up below =
    let within : place < suc n * suc n = (div-lt_iff_lt-mul {k = suc n} {x = place} {y = suc n} (omega arith)).0 below in
    omega (arith, within, up)

-- so is its destination
destination-below : (count place : ℕ) → place < count * count → place % count < count
destination-below zero place below = absurd (omega (arith, below))
destination-below (suc n) place below = mod-lt place (omega arith)

-- the next place is of the same source, where its destination was not the last
pub same_source : (count place : ℕ) → place < count * count → place % count + 1 ≢ count → (place + 1) / count ≡ place / count
same_source count place below more =
    let d = destination-below count place below in
    let parts = div-add-mod' place count in
    ap (λ (p : ℕ). p / count) (let same : place + 1 ≡ place / count * count + (place % count + 1) = omega (arith, parts) in same)
    ∙ div-mul-add (place / count) count (place % count + 1) (omega (arith, d, more))

-- ---- an estate's rules from a place to the next

module _ (lists : EstateLists) (folding : Folding) (old new place : ℕ) (kept kept' : List (Option (List CachedConns))) where
  -- where its source is the same
  pub due_from-same_source : place < length folding.workloads * length folding.workloads → place % length folding.workloads + 1 ≢ length folding.workloads →
      new + 4 * most_rules lists folding * (folding.kind_count - cached_count kept') ≤ old + 4 * most_rules lists folding * (folding.kind_count - cached_count kept) →
      new + due_from lists folding (place + 1) kept' ≤ old + due_from lists folding place kept
  unfolding due_from
  due_from-same_source below more steps =
      let count = length folding.workloads in
      let unkept = folding.kind_count - cached_count kept in
      let unkept' = folding.kind_count - cached_count kept' in
      let d = destination-below count place below in
      let due = λ (u p : ℕ). due_at count folding.kind_count (most_rules lists folding) u p in
      let is : place / count * count + place % count ≡ place = div-add-mod' place count in
      let P : ℕ → Type 0 = λ p. new + due unkept' (p + 1) ≤ old + due unkept p in
      subst P is (due-same_source count folding.kind_count (most_rules lists folding) old new unkept unkept' (place / count) (place % count) (source-below count place below)
      (omega (arith, d, more)) steps)

  -- where it is the next one, and nothing is kept
  pub due_from-next_source : place < length folding.workloads * length folding.workloads → place % length folding.workloads + 1 ≡ length folding.workloads →
      new + 4 * most_rules lists folding * (folding.kind_count - cached_count kept') ≤ old + 4 * most_rules lists folding * (folding.kind_count - cached_count kept) →
      new + due_from lists folding (place + 1) [] ≤ old + due_from lists folding place kept
  unfolding due_from
  due_from-next_source below last steps =
      let count = length folding.workloads in
      let unkept = folding.kind_count - cached_count kept in
      let unkept' = folding.kind_count - cached_count kept' in
      let s = source-below count place below in
      let all : folding.kind_count - 0 ≡ folding.kind_count = omega arith in
      let due = λ (u p : ℕ). due_at count folding.kind_count (most_rules lists folding) u p in
      let is : place / count * count + place % count ≡ place = div-add-mod' place count in
      let P : ℕ → Type 0 = λ p. new + due folding.kind_count (p + 1) ≤ old + due unkept p in
      let Q : ℕ → Type 0 = λ u. new + due u (place + 1) ≤ old + due unkept place in
      subst Q (sym all) (subst P is (elim (cases_order (place / count + 1) count) [
        | inl end ↦ due-last_source count folding.kind_count (most_rules lists folding) old new unkept unkept' (place / count) (place % count) end last steps
        | inr (inl before) ↦ due-next_source count folding.kind_count (most_rules lists folding) old new unkept unkept' (place / count) (place % count) before last steps
        | inr (inr after) ↦ absurd (omega (arith, after, s))
      ]))

  -- where addresses were looked at
  pub due_from-address : length folding.workloads * length folding.workloads ≤ place → place < place_count (length folding.workloads) → new ≤ old + most_rules lists folding →
      new + due_from lists folding (place + 1) kept' ≤ old + due_from lists folding place kept
  unfolding due_from
  due_from-address up below steps =
      due-address (length folding.workloads) folding.kind_count (most_rules lists folding) old new (folding.kind_count - cached_count kept) (folding.kind_count - cached_count kept') place up below steps

  -- what is due has what was looked at for a pair
  pub due_from-pair : place < length folding.workloads * length folding.workloads → new ≤ old + 4 * most_rules lists folding * (folding.kind_count - cached_count kept) →
      new ≤ old + due_from lists folding place kept
  unfolding due_from
  due_from-pair below steps =
      let count = length folding.workloads in
      let is : place / count * count + place % count ≡ place = div-add-mod' place count in
      let unkept = folding.kind_count - cached_count kept in
      let P : ℕ → Type 0 = λ p. new ≤ old + due_at count folding.kind_count (most_rules lists folding) unkept p in
      subst P is (due-unkept count folding.kind_count (most_rules lists folding) old new unkept (place / count) (place % count) (source-below count place below)
      (destination-below count place below) steps)

-- ---- places that are passed over

module _ (count place later : ℕ) (same : IsOfSameSource count place later) where
  pub over-source : later / count ≡ place / count
  over-source = elim (cases_lt place (pair_count count)) [
    | inl below ↦ (same.pairs below).1
    | inr up ↦ ap (λ (n : ℕ). n / count) (same.behind up)
  ]

  pub over-within : place < place_count count → later < place_count count
  over-within within = elim (cases_lt place (pair_count count)) [
    | inl below ↦ omega (arith, (same.pairs below).0)
    | inr up ↦ subst (λ (n : ℕ). n < place_count count) (sym (same.behind up)) within
  ]

  over-pairs : nat_lt later (pair_count count) ≡ nat_lt place (pair_count count)
  over-pairs = elim (cases_lt place (pair_count count)) [
    | inl below ↦ lt-ltb later (pair_count count) (same.pairs below).0 ∙ sym (lt-ltb place (pair_count count) below)
    | inr up ↦ ap (λ (n : ℕ). nat_lt n (pair_count count)) (same.behind up)
  ]

  over-behind : nat_lt place (pair_count count) ≡ false → later ≡ place
  over-behind behind = elim (cases_lt place (pair_count count)) [
    | inl below ↦ absurd (let there = lt-ltb place (pair_count count) below in cc)
    | inr up ↦ same.behind up
  ]

  over-due : (kinds most unkept : ℕ) → due_at count kinds most unkept later ≡ due_at count kinds most unkept place
  unfolding due_at
  over-due kinds most unkept =
      ap (λ (b : Bool). if b then most * (4 * (kinds * (count - 1 - later / count) + unkept) + 2 * count) else most * (place_count count - later)) over-pairs
      ∙ go (nat_lt place (pair_count count)) over-behind
    where
      go : (b : Bool) → (b ≡ false → later ≡ place) →
          (if b then most * (4 * (kinds * (count - 1 - later / count) + unkept) + 2 * count) else most * (place_count count - later)) ≡
          (if b then most * (4 * (kinds * (count - 1 - place / count) + unkept) + 2 * count) else most * (place_count count - place))
      go true behind = ap (λ (source : ℕ). most * (4 * (kinds * (count - 1 - source) + unkept) + 2 * count)) over-source
      go false behind = ap (λ (n : ℕ). most * (place_count count - n)) (behind refl)

-- as much is due at a later place of the same source
pub due_from-over : (lists : EstateLists) (folding : Folding) (place later : ℕ) (kept : List (Option (List CachedConns))) → IsOfSameSource (length folding.workloads) place later →
    due_from lists folding later kept ≡ due_from lists folding place kept
unfolding due_from
due_from-over lists folding place later kept same = over-due (length folding.workloads) place later same folding.kind_count (most_rules lists folding) (folding.kind_count - cached_count kept)
