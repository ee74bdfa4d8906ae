-- Lists that are made from numbers in a row, and what holds of each of their elements. For ObjectLemmas and crates above.
use Rattle.std.proofs.Common.{ℕ, zero, suc, ◌+◌, ◌<◌, ◌≤◌, List, [], ◌∷◌, ◌++◌, map, arith}
use Rattle.std.specs.List.{AllByRecursion, range_with_len}
use Rattle.np_base.proofs.Each.{All-append}

-- ---- numbers in a row

pub all-from : {X : Type 0} (P : X → Type 0) (f : ℕ → X) (a n end : ℕ) → a + n ≤ end → ((i : ℕ) → a ≤ i → i < end → P (f i)) → AllByRecursion P (map f (range_with_len a n))
all-from P f a zero end within each = tt
all-from P f a (suc n) end within each = (each a (omega arith) (omega arith), all-from P f (a + 1) n end (omega arith) (λ i above below. each i (omega arith) below))

abbrev pub row : {X : Type 0} → (ℕ → X) → ℕ → List X
row f n = map f (range_with_len 0 n)

pub all-row : {X : Type 0} (P : X → Type 0) (f : ℕ → X) (n : ℕ) → ((i : ℕ) → i < n → P (f i)) → AllByRecursion P (row f n)
all-row P f n each = all-from P f 0 n n (omega arith) (λ i above below. each i below)

-- ---- four kinds in a list: five of the first, n of the second, five of the third, and the last

abbrev pub four_kinds : {X : Type 0} → (ℕ → X) → (ℕ → X) → (ℕ → X) → X → ℕ → List X
four_kinds f g h last n = row f 5 ++ row g n ++ row h 5 ++ last ∷ []

pub all-four : {X : Type 0} (P : X → Type 0) (f g h : ℕ → X) (last : X) (n : ℕ) → ((i : ℕ) → i < 5 → P (f i)) → ((i : ℕ) → i < n → P (g i)) → ((i : ℕ) → i < 5 → P (h i)) → P last →
    AllByRecursion P (four_kinds f g h last n)
all-four P f g h last n first second third fourth =
    All-append P (row f 5 ++ row g n ++ row h 5) (last ∷ [])
    (All-append P (row f 5 ++ row g n) (row h 5) (All-append P (row f 5) (row g n) (all-row P f 5 first) (all-row P g n second)) (all-row P h 5 third))
    (fourth, tt)
