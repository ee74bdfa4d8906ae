-- Places in lists, and lists of placed rules of which no two have one name. For MarkLemmas, NamedLemmas and 3 more.
use Rattle.std.proofs.Common.{◌≡◌, ◌≢◌, ℕ, ◌+◌, ◌<◌, ◌≤◌, List, [], ◌∷◌, length, map, Option, Some, All, AllPairs, sym, ◌∙◌, ap, subst, arith, inl, inr}
use Rattle.std.specs.List.{enumerate_from, flat_map, slice_get}
use Rattle.std.specs.Option.{option_map_or}
use Rattle.std.proofs.lemmas.Bool.{cases_order}
use Rattle.std.proofs.lemmas.List.Elements.{All-append, All-cons, All-head, All-nil, All-tail, All-weaker}
use Rattle.std.proofs.lemmas.List.Kept.{AllPairs-cons}
use Rattle.std.proofs.lemmas.Option.{get_or_from_slice_get, slice_get_cases, slice_get_within}
use Rattle.np_base.proofs.Lists.{AllPairs-head, AllPairs-tail, AllPairs-append}
use Rattle.np_addr.proofs.Pairs.{AllPairs-nil}

-- ---- places

-- what is of the item at a place that is there
pub at_place : {X D : Type 0} (P : D → Type 0) (give : X → D) (none : D) (items : List X) (place : ℕ) → place < length items → ((item : X) → slice_get items place ≡ Some item → P (give item)) →
    P (option_map_or give (slice_get items place) none)
at_place {X} P give none items place within holds =
    elim (slice_get_cases items place).1 [
      | inl there ↦ subst (λ (o : Option X). P (option_map_or give o none)) (sym there.2) (holds there.0 there.2)
      | inr past ↦ absurd (omega (arith, past.0))
    ]

-- where no two items have one name, a name tells the place
pub place_told : {X N : Type 0} (name : X → N) (xs : List X) → AllPairs (λ x y. name x ≢ name y) xs → (p q : ℕ) (x y : X) → slice_get xs p ≡ Some x → slice_get xs q ≡ Some y → name x ≡ name y → p ≡ q
place_told {X} {N} name xs apart p q x y at_p at_q same =
    elim (cases_order p q) [
      | inl equal ↦ equal
      | inr others ↦ elim others [
        | inl before ↦ absurd (pair p q x y before at_p at_q same)
        | inr after ↦ absurd (pair q p y x after at_q at_p (sym same))
      ]
    ]
  where
    pair : (i j : ℕ) (a b : X) → i < j → slice_get xs i ≡ Some a → slice_get xs j ≡ Some b → name a ≡ name b → ⊥
    pair i j a b before at_i at_j equal = apart i j a before (slice_get_within xs j b at_j)
        (ap name (get_or_from_slice_get xs i a a at_i) ∙ equal ∙ ap name (sym (get_or_from_slice_get xs j b a at_j)))

-- ---- the items of several owners

-- what holds of the items of each owner
pub all_flat : {A X : Type 0} (P : A → Type 0) (Q : X → Type 0) (f : A → List X) → ((a : A) → P a → All Q (f a)) → (owners : List A) → All P owners → All Q (flat_map f owners)
all_flat P Q f each [] all = All-nil Q
all_flat P Q f each (a ∷ owners) all = All-append Q (f a) (flat_map f owners) (each a (All-head P a owners all)) (all_flat P Q f each owners (All-tail P a owners all))

-- Items are related where those of one owner are, and those of two owners that stand apart.
pub pairs_flat : {A X : Type 0} (R : X → X → Type 0) (Apart : A → A → Type 0) (Of : A → X → Type 0) (f : A → List X) → ((a : A) → All (Of a) (f a)) → ((a : A) → AllPairs R (f a)) →
    ((a b : A) (x y : X) → Apart a b → Of a x → Of b y → R x y) → (owners : List A) → AllPairs Apart owners → AllPairs R (flat_map f owners)
pairs_flat R Apart Of f of one across [] apart = AllPairs-nil R
pairs_flat {A} {X} R Apart Of f of one across (a ∷ owners) apart =
    AllPairs-append R (Of a) (λ y. (b : A) × Apart a b × Of b y) (λ x y of_x found. across a found.0 x y found.1 of_x found.2) (f a) (flat_map f owners)
    (one a) (pairs_flat R Apart Of f of one across owners (AllPairs-tail Apart a owners apart)) (of a)
    (all_flat (Apart a) (λ y. (b : A) × Apart a b × Of b y) f (λ b from. All-weaker (Of b) (λ y. (c : A) × Apart a c × Of c y) (λ y of_y. (b, from, of_y)) (f b) (of b)) owners
    (AllPairs-head Apart a owners apart))

-- ---- numbered items

-- the items from a place on, with their places
numbered_from : {X Y : Type 0} (place_of : Y → ℕ) (make : ℕ × X → Y) → ((numbered : ℕ × X) → place_of (make numbered) ≡ numbered.0) → (n m : ℕ) (xs : List X) → n ≤ m →
    All (λ y. n ≤ place_of y) (map make (enumerate_from m xs))
numbered_from place_of make placed n m [] above = All-nil (λ y. n ≤ place_of y)
numbered_from place_of make placed n m (x ∷ xs) above =
    All-cons (λ y. n ≤ place_of y) (make (m, x)) (map make (enumerate_from (m + 1) xs)) (omega (arith, placed (m, x))) (numbered_from place_of make placed n (m + 1) xs (omega arith))

-- the places of numbered items ascend
pub numbered_pairs : {X Y : Type 0} (place_of : Y → ℕ) (make : ℕ × X → Y) → ((numbered : ℕ × X) → place_of (make numbered) ≡ numbered.0) → (n : ℕ) (xs : List X) →
    AllPairs (λ x y. place_of x < place_of y) (map make (enumerate_from n xs))
numbered_pairs place_of make placed n [] = AllPairs-nil (λ x y. place_of x < place_of y)
numbered_pairs place_of make placed n (x ∷ xs) =
    AllPairs-cons (λ a b. place_of a < place_of b) (make (n, x)) (map make (enumerate_from (n + 1) xs))
    (All-weaker (λ y. n + 1 ≤ place_of y) (λ y. place_of (make (n, x)) < place_of y) (λ y above. omega (arith, placed (n, x))) (map make (enumerate_from (n + 1) xs))
    (numbered_from place_of make placed (n + 1) (n + 1) xs (omega arith)))
    (numbered_pairs place_of make placed (n + 1) xs)

-- what holds of each item that is made
pub all_made : {X Y : Type 0} (P : Y → Type 0) (make : ℕ × X → Y) → ((numbered : ℕ × X) → P (make numbered)) → (n : ℕ) (xs : List X) → All P (map make (enumerate_from n xs))
all_made P make each n [] = All-nil P
all_made P make each n (x ∷ xs) = All-cons P (make (n, x)) (map make (enumerate_from (n + 1) xs)) (each (n, x)) (all_made P make each (n + 1) xs)
