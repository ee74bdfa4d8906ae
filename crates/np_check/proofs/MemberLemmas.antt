-- What lists contain. For NoneLemmas, OrderLemmas and crates above.
use Rattle.std.proofs.Common.{◌≡◌, ℕ, zero, suc, ◌+◌, ◌-◌, ◌<◌, ◌≤◌, List, [], ◌∷◌, ◌⊎◌, Bool, true, Contains, map, sym, ap, ◌∙◌, inl, inr, arith}
use Rattle.std.specs.Prelude.{filter}
use Rattle.std.specs.List.{range_with_len}
use Rattle.std.proofs.lemmas.Bool.{cases_Bool}
use Rattle.std.proofs.lemmas.List.{get_or-map, length-map}
use Rattle.std.proofs.lemmas.List.Elements.{All-contains, All-contains_itself, All-filter}
use Rattle.std.proofs.lemmas.List.FromFn.{get_or-range_with_len, length-range_with_len}
use Rattle.np_addr.proofs.SameLists.{Contains-first}

pub nothing : {X : Type 0} (x : X) → Contains [] x → ⊥
nothing x has = omega (arith, has.1)

pub further_on : {X : Type 0} (y : X) (ys : List X) (x : X) → Contains ys x → Contains (y ∷ ys) x
further_on y ys x has = (suc has.0, omega (arith, has.1), has.2)

pub first_or_later : {X : Type 0} (y : X) (ys : List X) (x : X) → Contains (y ∷ ys) x → (x ≡ y) ⊎ Contains ys x
first_or_later y ys x (zero, below, is) = inl (sym is)
first_or_later y ys x (suc k, below, is) = inr (k, omega arith, is)

-- ---- lists that are mapped, and those that are filtered

pub in_map : {X Y : Type 0} (to : X → Y) (xs : List X) (x : X) → Contains xs x → Contains (map to xs) (to x)
in_map to xs x (k, below, is) = (k, omega (arith, below, length-map xs to), get_or-map to xs k x (to x) below ∙ ap to is)

pub from_map : {X Y : Type 0} (to : X → Y) (xs : List X) (y : Y) → Contains (map to xs) y → (x : X) × (y ≡ to x) × Contains xs x
from_map to [] y has = absurd (nothing y has)
from_map to (x ∷ xs) y has =
    elim (first_or_later (to x) (map to xs) y has) [
      | inl same ↦ (x, same, Contains-first x xs)
      | inr later ↦ let (z, is, one) = from_map to xs y later in (z, is, further_on x xs z one)
    ]

pub in_filter : {X : Type 0} (test : X → Bool) (xs : List X) (x : X) → Contains xs x → test x ≡ true → Contains (filter test xs) x
in_filter test [] x has passes = absurd (nothing x has)
in_filter test (y ∷ ys) x has passes =
    elim (first_or_later y ys x has) [
      | inl same ↦ let kept : test y ≡ true = ap test (sym same) ∙ passes in rw kept (0, omega arith, sym same)
      | inr later ↦ elim (cases_Bool (test y)) [
        | inl kept ↦ rw kept (further_on y (filter test ys) x (in_filter test ys x later passes))
        | inr left ↦ rw left (in_filter test ys x later passes)
      ]
    ]

pub from_filter : {X : Type 0} (test : X → Bool) (xs : List X) (x : X) → Contains (filter test xs) x → Contains xs x
from_filter test xs x has = All-contains (Contains xs) (filter test xs) x (All-filter test (Contains xs) xs (All-contains_itself xs)) has

-- ---- numbers from one on

pub in_range : (low count n : ℕ) → low ≤ n → n < low + count → Contains (range_with_len low count) n
in_range low count n above below =
    let within : n - low < count = omega arith in
    let sum : low + (n - low) ≡ n = omega arith in
    (n - low, omega (arith, within, length-range_with_len low count), get_or-range_with_len low count (n - low) n within ∙ sum)

pub from_range : (count n : ℕ) → Contains (range_with_len 0 count) n → n < count
from_range count n (k, below, is) =
    let within : k < count = omega (arith, below, length-range_with_len 0 count) in
    let sum : 0 + k ≡ n = sym (get_or-range_with_len 0 count k n within) ∙ is in
    omega arith
