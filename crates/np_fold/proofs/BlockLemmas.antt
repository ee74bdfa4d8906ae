-- The blocks of pods, and blocks that are listed once. For `blocks_of` and `starts_of`.
use Rattle.std.proofs.Common.{◌≡◌, ℕ, ◌+◌, ◌<◌, ◌≤◌, List, [], ◌∷◌, ◌++◌, map, length, get_or, take, Bool, true, false, cond, ◌&&◌, Ordering, Less, Equal, Greater, refl, sym, ap, ◌∙◌, arith}
use Rattle.std.specs.Prelude.{filter}
use Rattle.std.specs.BTreeSet.{insert_key}
use Rattle.std.specs.Cmp.{booleans_Decides}
use Rattle.std.specs.List.{AllByRecursion, enumerate_from, list_all}
use Rattle.std.specs.Ordering.{match_ordering, nat_cmp, ordering_then}
use Rattle.std.proofs.lemmas.Bool.{and_from, and_parts}
use Rattle.std.proofs.lemmas.List.{length-take, map-append, take_more}
use Rattle.std.proofs.lemmas.List.Elements.{filter-append}
use Rattle.std.proofs.lemmas.List.Folds.{list_all_more}
use Rattle.np_base.proofs.Bools.{and-leftwards}
use Rattle.np_base.proofs.Orders.{second_ties}
use Rattle.np_addr.specs.contracts.address.AddressOrd.TheImpl as address_ord
use Rattle.np_fold.specs.Prelude.{Address, Cidr, HaveSame, block_at, start_of}
use Rattle.np_addr.specs.declared.address.Address.TheVariants.{Four, Six}
use Rattle.np_addr.specs.declared.cidr.Cidr.TheVariants as cidr
use Rattle.np_fold.proofs.OrderLemmas.{first_ties, numbers}
use mathlib.Core.Bool.{beq}

-- ---- the places of items that pass a test

-- those places, where the first is not 0
abbrev passing : {X : Type 0} → ℕ → (X → Bool) → List X → List ℕ
passing start test xs = map (λ at. at.0) (filter (λ at. test at.1) (enumerate_from start xs))

-- they stand at the first or behind it
later : (start : ℕ) (places : List ℕ) → AllByRecursion (λ place. start + 1 ≤ place) places → AllByRecursion (λ place. start ≤ place) places
later start [] all = tt
later start (place ∷ places) all = (omega (arith, all.0), later start places all.1)

passing-from : {X : Type 0} (start : ℕ) (test : X → Bool) (xs : List X) → AllByRecursion (λ place. start ≤ place) (passing start test xs)
passing-from start test [] = tt
passing-from {X} start test (x ∷ xs) = by (test x) (later start (passing (start + 1) test xs) (passing-from (start + 1) test xs))
  where
    by : (b : Bool) → AllByRecursion (λ place. start ≤ place) (passing (start + 1) test xs)
        → AllByRecursion (λ place. start ≤ place) (map (λ (at : ℕ × X). at.0)
        (cond b ((start, x) ∷ filter (λ at. test at.1) (enumerate_from (start + 1) xs)) (filter (λ at. test at.1) (enumerate_from (start + 1) xs))))
    by true others = (omega arith, others)
    by false others = others

never : {A : Type 0} (start : ℕ) (more places : List ℕ) → start ∷ more ≡ places → AllByRecursion (λ place. start + 1 ≤ place) places → A
never start more [] same all = cc
never start more (place ∷ places) same all = let here : start ≡ place = cc in absurd (omega (arith, here, all.0))

-- tests with equal places agree
agree-from_places : {X : Type 0} (start : ℕ) (test other : X → Bool) (xs : List X) → passing start test xs ≡ passing start other xs → AllByRecursion (λ x. test x ≡ other x) xs
agree-from_places start test other [] same = tt
agree-from_places {X} start test other (x ∷ xs) same =
    let both = by (test x) (other x) same in
    (both.0, agree-from_places (start + 1) test other xs both.1)
  where
    by : (b b' : Bool) → map (λ (at : ℕ × X). at.0) (cond b ((start, x) ∷ filter (λ at. test at.1) (enumerate_from (start + 1) xs)) (filter (λ at. test at.1) (enumerate_from (start + 1) xs)))
        ≡ map (λ (at : ℕ × X). at.0) (cond b' ((start, x) ∷ filter (λ at. other at.1) (enumerate_from (start + 1) xs)) (filter (λ at. other at.1) (enumerate_from (start + 1) xs)))
        → (b ≡ b') × (passing (start + 1) test xs ≡ passing (start + 1) other xs)
    by true true equal = (refl, cc)
    by true false equal = never start (passing (start + 1) test xs) (passing (start + 1) other xs) equal (passing-from (start + 1) other xs)
    by false true equal = never start (passing (start + 1) other xs) (passing (start + 1) test xs) (sym equal) (passing-from (start + 1) test xs)
    by false false equal = (refl, equal)

places-from_agree : {X : Type 0} (start : ℕ) (test other : X → Bool) (xs : List X) → AllByRecursion (λ x. test x ≡ other x) xs → passing start test xs ≡ passing start other xs
places-from_agree start test other [] agree = refl
places-from_agree {X} start test other (x ∷ xs) agree = by (test x) (other x) agree.0 (places-from_agree (start + 1) test other xs agree.1)
  where
    by : (b b' : Bool) → b ≡ b' → passing (start + 1) test xs ≡ passing (start + 1) other xs
        → map (λ (at : ℕ × X). at.0) (cond b ((start, x) ∷ filter (λ at. test at.1) (enumerate_from (start + 1) xs)) (filter (λ at. test at.1) (enumerate_from (start + 1) xs)))
        ≡ map (λ (at : ℕ × X). at.0) (cond b' ((start, x) ∷ filter (λ at. other at.1) (enumerate_from (start + 1) xs)) (filter (λ at. other at.1) (enumerate_from (start + 1) xs)))
    by true true same others = ap (λ (places : List ℕ). start ∷ places) others
    by true false same others = cc
    by false true same others = cc
    by false false same others = others

-- ---- one more item

enumerate-push : {X : Type 0} (start : ℕ) (xs : List X) (x : X) → enumerate_from start (xs ++ x ∷ []) ≡ enumerate_from start xs ++ (start + length xs, x) ∷ []
enumerate-push {X} start [] x = let here : start ≡ start + 0 = omega arith in ap (λ (place : ℕ). let at : ℕ × X = (place, x) in at ∷ []) here
enumerate-push {X} start (first ∷ xs) x =
    let here : start + 1 + length xs ≡ start + length (first ∷ xs) = omega arith in
    ap (λ (rest : List (ℕ × X)). (start, first) ∷ rest) (enumerate-push (start + 1) xs x)
    ∙ ap (λ (place : ℕ). (start, first) ∷ enumerate_from (start + 1) xs ++ (place, x) ∷ []) here

passing-push : {X : Type 0} (start : ℕ) (test : X → Bool) (xs : List X) (x : X) → passing start test (xs ++ x ∷ []) ≡ passing start test xs ++ cond (test x) ((start + length xs) ∷ []) []
passing-push {X} start test xs x =
    ap (λ (all : List (ℕ × X)). map (λ at. at.0) (filter (λ at. test at.1) all)) (enumerate-push start xs x)
    ∙ ap (map (λ (at : ℕ × X). at.0)) (filter-append (λ (at : ℕ × X). test at.1) (enumerate_from start xs) ((start + length xs, x) ∷ []))
    ∙ map-append (λ (at : ℕ × X). at.0) (filter (λ at. test at.1) (enumerate_from start xs)) (cond (test x) ((start + length xs, x) ∷ []) [])
    ∙ ap (λ (last : List ℕ). passing start test xs ++ last) (by (test x))
  where
    by : (b : Bool) → map (λ (at : ℕ × X). at.0) (cond b ((start + length xs, x) ∷ []) []) ≡ cond b ((start + length xs) ∷ []) []
    by true = refl
    by false = refl

pub places-more : {X : Type 0} (test : X → Bool) (xs : List X) (i : ℕ) (x : X) (places : List ℕ) → i < length xs → x ≡ get_or xs i x → places ≡ passing 0 test (take i xs)
    → places ++ cond (test x) (i ∷ []) [] ≡ passing 0 test (take (i + 1) xs)
places-more test xs i x places below is so_far =
    let place : i ≡ 0 + length (take i xs) = omega (arith, length-take i xs, below) in
    ap (λ (all : List ℕ). all ++ cond (test x) (i ∷ []) []) so_far
    ∙ ap (λ (n : ℕ). passing 0 test (take i xs) ++ cond (test x) (n ∷ []) []) place
    ∙ sym (passing-push 0 test (take i xs) x)
    ∙ sym (ap (passing 0 test) (take_more xs i x below ∙ ap (λ one. take i xs ++ one ∷ []) (sym is)))

-- ---- the same of lists with the same blocks

pub test-from_agree : {X : Type 0} (p q : X → Bool) (xs : List X) → AllByRecursion (λ x. p x ≡ q x) xs → list_all (λ x. beq (p x) (q x)) xs ≡ true
test-from_agree p q [] agree = refl
test-from_agree p q (x ∷ xs) agree = and_from (beq (p x) (q x)) (list_all (λ x. beq (p x) (q x)) xs) ((booleans_Decides (p x) (q x)).1 agree.0) (test-from_agree p q xs agree.1)

pub agree-from_test : {X : Type 0} (p q : X → Bool) (xs : List X) → list_all (λ x. beq (p x) (q x)) xs ≡ true → AllByRecursion (λ x. p x ≡ q x) xs
agree-from_test p q [] all = tt
agree-from_test p q (x ∷ xs) all =
    let parts = and_parts (beq (p x) (q x)) (list_all (λ x. beq (p x) (q x)) xs) all in
    ((booleans_Decides (p x) (q x)).0 parts.0, agree-from_test p q xs parts.1)

module _ (cidrs others : List Cidr) (same : HaveSame cidrs others) (p q : Cidr → Bool) where
  pub agree-from_blocks : passing 0 p cidrs ≡ passing 0 q cidrs → AllByRecursion (λ cidr. p cidr ≡ q cidr) others
  agree-from_blocks equal =
      agree-from_test p q others (sym (same (λ cidr. beq (p cidr) (q cidr))) ∙ test-from_agree p q cidrs (agree-from_places 0 p q cidrs equal))

  pub blocks-from_agree : AllByRecursion (λ cidr. p cidr ≡ q cidr) others → passing 0 p cidrs ≡ passing 0 q cidrs
  blocks-from_agree agree =
      places-from_agree 0 p q cidrs (agree-from_test p q cidrs (same (λ cidr. beq (p cidr) (q cidr)) ∙ test-from_agree p q others agree))

-- ---- blocks, each once

and_swap : (a b : Bool) → (a && b) ≡ (b && a)
and_swap true true = refl
and_swap true false = refl
and_swap false true = refl
and_swap false false = refl

and_again : (a b : Bool) → (a && b) ≡ ((a && b) && a)
and_again true true = refl
and_again true false = refl
and_again false b = refl

-- what all keys and one more pass, all of them together do
module _ {K : Type 0} (cmp : K → K → Ordering) (only : (x y : K) → cmp x y ≡ Equal → x ≡ y) (test : K → Bool) where
  all-insert : (keys : List K) (key : K) → list_all test (insert_key cmp keys key) ≡ (list_all test keys && test key)
  all-insert [] key = and_swap (test key) true
  all-insert (first ∷ keys) key = by (cmp key first) refl (all-insert keys key)
    where
      by : (o : Ordering) → cmp key first ≡ o → list_all test (insert_key cmp keys key) ≡ (list_all test keys && test key)
          → list_all test (match_ordering o (key ∷ first ∷ keys) (first ∷ keys) (first ∷ insert_key cmp keys key)) ≡ ((test first && list_all test keys) && test key)
      by Less is others = and_swap (test key) (test first && list_all test keys)
      by Equal is others =
          and_again (test first) (list_all test keys) ∙ ap (λ (k : K). (test first && list_all test keys) && test k) (sym (only key first is))
      by Greater is others = ap (λ (b : Bool). test first && b) others ∙ and-leftwards (test first) (list_all test keys) (test key)

list_all-map : {X Y : Type 0} (test : Y → Bool) (f : X → Y) (xs : List X) → list_all test (map f xs) ≡ list_all (λ x. test (f x)) xs
list_all-map test f [] = refl
list_all-map test f (x ∷ xs) = ap (λ (b : Bool). test (f x) && b) (list_all-map test f xs)

addresses-tie : (a b : Address) → (address_ord.ghosts).cmp a b ≡ Equal → a ≡ b
addresses-tie (Four a) (Four b) ties = ap (λ (n : ℕ). Four n) (numbers a b ties)
addresses-tie (Six a) (Six b) ties = ap (λ (n : ℕ). Six n) (numbers a b ties)
addresses-tie (Four a) (Six b) ties = let never : Less ≡ Equal = ties in cc
addresses-tie (Six a) (Four b) ties = let never : Greater ≡ Equal = ties in cc

-- the order in which the set has starts of blocks
abbrev pub compare_starts : Address × ℕ → Address × ℕ → Ordering
compare_starts x y = ordering_then ((address_ord.ghosts).cmp x.0 y.0) (nat_cmp x.1 y.1)

starts-tie : (x y : Address × ℕ) → compare_starts x y ≡ Equal → x ≡ y
starts-tie (a, m) (b, n) ties =
    let base : a ≡ b = addresses-tie a b (first_ties ((address_ord.ghosts).cmp a b) (nat_cmp m n) ties) in
    let len : m ≡ n = numbers m n (second_ties ((address_ord.ghosts).cmp a b) (nat_cmp m n) ties) in
    cc

block_at-start_of : (one : Cidr) → block_at (start_of one) ≡ one
block_at-start_of (cidr.Four base len) = refl
block_at-start_of (cidr.Six base len) = refl

-- one more block
pub HaveSame-more : (starts more : List (Address × ℕ)) (cidrs : List Cidr) (i : ℕ) (one : Cidr) → i < length cidrs → one ≡ get_or cidrs i one → more ≡ insert_key compare_starts starts (start_of one)
    → HaveSame (map block_at starts) (take i cidrs) → HaveSame (map block_at more) (take (i + 1) cidrs)
HaveSame-more starts more cidrs i one below is put so_far = λ test.
    list_all-map test block_at more
    ∙ ap (list_all (λ (start : Address × ℕ). test (block_at start))) put
    ∙ all-insert compare_starts starts-tie (λ start. test (block_at start)) starts (start_of one)
    ∙ ap (λ (b : Bool). b && test (block_at (start_of one))) (sym (list_all-map test block_at starts) ∙ so_far test)
    ∙ ap (λ (cidr : Cidr). list_all test (take i cidrs) && test cidr) (block_at-start_of one ∙ is)
    ∙ sym (list_all_more test cidrs i one below)
