-- Lists that are made from numbers in a row: what holds of each of their elements and those after it, and of those at one
-- place in two lists. For ApartLemmas and ReadingLemmas.
use Rattle.std.proofs.Common.{ℕ, zero, suc, ◌+◌, ◌<◌, ◌≤◌, List, [], ◌∷◌, ◌++◌, map, arith}
use Rattle.std.specs.List.{AllByRecursion, AllZip, range_with_len}
use Rattle.np_reading.proofs.LawfulLists.{AllLater}
use Rattle.np_base.proofs.Each.{All-append}
use Rattle.np_sample.proofs.ListLemmas.{all-from, all-row, four_kinds, row}

-- each element of a list stands so to those of another
abbrev AllAcross : {X : Type 0} → (X → X → Type 0) → List X → List X → Type 0
AllAcross R xs ys = AllByRecursion (λ x. AllByRecursion (R x) ys) xs

-- ---- one list behind another

later-append : {X : Type 0} (R : X → X → Type 0) (xs ys : List X) → AllLater R xs → AllLater R ys → AllAcross R xs ys → AllLater R (xs ++ ys)
later-append R [] ys front rest across = rest
later-append R (x ∷ xs) ys front rest across = (All-append (R x) xs ys front.0 across.0, later-append R xs ys front.1 rest across.1)

zip-append : {X Y : Type 0} (R : X → Y → Type 0) (xs xs' : List X) (ys ys' : List Y) → AllZip R xs ys → AllZip R xs' ys' → AllZip R (xs ++ xs') (ys ++ ys')
zip-append R [] xs' [] ys' front rest = rest
zip-append R [] xs' (y ∷ ys) ys' front rest = absurd front
zip-append R (x ∷ xs) xs' [] ys' front rest = absurd front
zip-append R (x ∷ xs) xs' (y ∷ ys) ys' front rest = (front.0, zip-append R xs xs' ys ys' front.1 rest)

-- ---- numbers in a row

later-from : {X : Type 0} (R : X → X → Type 0) (f : ℕ → X) (a n end : ℕ) → a + n ≤ end → ((i j : ℕ) → i < j → j < end → R (f i) (f j)) → AllLater R (map f (range_with_len a n))
later-from R f a zero end within each = tt
later-from R f a (suc n) end within each =
    (all-from (R (f a)) f (a + 1) n end (omega arith) (λ j above below. each a j (omega arith) below), later-from R f (a + 1) n end (omega arith) each)

zip-from : {X Y : Type 0} (R : X → Y → Type 0) (f : ℕ → X) (g : ℕ → Y) (a n end : ℕ) → a + n ≤ end → ((i : ℕ) → i < end → R (f i) (g i)) →
    AllZip R (map f (range_with_len a n)) (map g (range_with_len a n))
zip-from R f g a zero end within each = tt
zip-from R f g a (suc n) end within each = (each a (omega arith), zip-from R f g (a + 1) n end (omega arith) each)

across-rows : {X : Type 0} (R : X → X → Type 0) (f g : ℕ → X) (n m : ℕ) → ((i j : ℕ) → R (f i) (g j)) → AllAcross R (row f n) (row g m)
across-rows R f g n m each = all-row (λ x. AllByRecursion (R x) (row g m)) f n (λ i below. all-row (R (f i)) g m (λ j within. each i j))

across-last : {X : Type 0} (R : X → X → Type 0) (f : ℕ → X) (last : X) (n : ℕ) → ((i : ℕ) → R (f i) last) → AllAcross R (row f n) (last ∷ [])
across-last R f last n each = all-row (λ x. AllByRecursion (R x) (last ∷ [])) f n (λ i below. (each i, tt))

-- ---- four kinds in a list

pub zip-four : {X Y : Type 0} (R : X → Y → Type 0) (f g h : ℕ → X) (last : X) (f' g' h' : ℕ → Y) (last' : Y) (n : ℕ) → ((i : ℕ) → i < 5 → R (f i) (f' i)) → ((i : ℕ) → i < n → R (g i) (g' i)) →
    AllZip R (row h 5) (row h' 5) → R last last'
    → AllZip R (four_kinds f g h last n) (four_kinds f' g' h' last' n)
zip-four R f g h last f' g' h' last' n first second third fourth =
    zip-append R (row f 5 ++ row g n ++ row h 5) (last ∷ []) (row f' 5 ++ row g' n ++ row h' 5) (last' ∷ [])
    (zip-append R (row f 5 ++ row g n) (row h 5) (row f' 5 ++ row g' n) (row h' 5)
    (zip-append R (row f 5) (row g n) (row f' 5) (row g' n) (zip-from R f f' 0 5 5 (omega arith) first) (zip-from R g g' 0 n n (omega arith) second))
    third)
    (fourth, tt)

-- those of one kind by what is so of them, and those of two kinds always
pub later-four : {X : Type 0} (R : X → X → Type 0) (f g h : ℕ → X) (last : X) (n : ℕ) → ((i j : ℕ) → i < j → j < 5 → R (f i) (f j)) → ((i j : ℕ) → i < j → j < n → R (g i) (g j)) →
    ((i j : ℕ) → i < j → j < 5 → R (h i) (h j))
    → ((i j : ℕ) → R (f i) (g j) × R (f i) (h j) × R (g i) (h j)) → ((i : ℕ) → R (f i) last × R (g i) last × R (h i) last) → AllLater R (four_kinds f g h last n)
later-four R f g h last n first second third across behind =
    later-append R (row f 5 ++ row g n ++ row h 5) (last ∷ [])
    (later-append R (row f 5 ++ row g n) (row h 5)
    (later-append R (row f 5) (row g n) (later-from R f 0 5 5 (omega arith) first) (later-from R g 0 n n (omega arith) second) (across-rows R f g 5 n (λ i j. (across i j).0)))
    (later-from R h 0 5 5 (omega arith) third)
    (All-append (λ x. AllByRecursion (R x) (row h 5)) (row f 5) (row g n) (across-rows R f h 5 5 (λ i j. (across i j).1)) (across-rows R g h n 5 (λ i j. (across i j).2))))
    (tt, tt)
    (All-append (λ x. AllByRecursion (R x) (last ∷ [])) (row f 5 ++ row g n) (row h 5)
    (All-append (λ x. AllByRecursion (R x) (last ∷ [])) (row f 5) (row g n) (across-last R f last 5 (λ i. (behind i).0)) (across-last R g last n (λ i. (behind i).1)))
    (across-last R h last 5 (λ i. (behind i).2)))
