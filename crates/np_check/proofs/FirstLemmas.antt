-- The first of a list. For AddressLemmas, BrokenLemmas and 9 more.
use Rattle.std.proofs.Common.{◌≡◌, ℕ, zero, suc, ◌+◌, ◌<◌, ◌≤◌, List, [], ◌∷◌, ◌++◌, Bool, true, false, Option, Some, None, All, map, option_map, refl, sym, ap, ◌∙◌, inl, inr, arith, ◌⊎◌, if◌then◌else◌}
use Rattle.std.specs.Prelude.{filter}
use Rattle.std.specs.List.{find, range_with_len}
use Rattle.std.specs.Option.{option_or}
use Rattle.std.proofs.lemmas.Bool.{cases_Bool, cases_eq}
use Rattle.std.proofs.lemmas.Option.{none-some, same_Some}
use Rattle.std.proofs.lemmas.List.Elements.{All-cons, All-head, All-nil, All-tail}
use Rattle.np_base.proofs.Options.{option_or-none}
use Rattle.np_check.specs.Prelude.{first_given}

or_or : {Y : Type 0} (a b c : Option Y) → option_or a (option_or b c) ≡ option_or (option_or a b) c
or_or None b c = refl
or_or (Some y) b c = refl

pub first_of-append : {X Y : Type 0} (gives : X → Option Y) (xs ys : List X) → first_given gives (xs ++ ys) ≡ option_or (first_given gives xs) (first_given gives ys)
first_of-append gives [] ys = refl
first_of-append gives (x ∷ xs) ys = ap (λ rest. option_or (gives x) rest) (first_of-append gives xs ys) ∙ or_or (gives x) (first_given gives xs) (first_given gives ys)

pub first_of-one : {X Y : Type 0} (gives : X → Option Y) (x : X) → first_given gives (x ∷ []) ≡ gives x
first_of-one gives x = option_or-none (gives x)

pub first_of-map : {W X Y : Type 0} (gives : X → Option Y) (to : W → X) (ws : List W) → first_given gives (map to ws) ≡ first_given (λ w. gives (to w)) ws
first_of-map gives to [] = refl
first_of-map gives to (w ∷ ws) = ap (λ rest. option_or (gives (to w)) rest) (first_of-map gives to ws)

-- what gives the same gives the same first
pub first_of-same : {X Y : Type 0} (gives gives' : X → Option Y) (xs : List X) → ((x : X) → gives x ≡ gives' x) → first_given gives xs ≡ first_given gives' xs
first_of-same gives gives' [] same = refl
first_of-same gives gives' (x ∷ xs) same = ap (λ first. option_or first (first_given gives xs)) (same x) ∙ ap (λ rest. option_or (gives' x) rest) (first_of-same gives gives' xs same)

pub first_of-same_all : {X Y : Type 0} (gives gives' : X → Option Y) (xs : List X) → All (λ x. gives x ≡ gives' x) xs → first_given gives xs ≡ first_given gives' xs
first_of-same_all gives gives' [] same = refl
first_of-same_all gives gives' (x ∷ xs) same =
    ap (λ first. option_or first (first_given gives xs)) (All-head (λ y. gives y ≡ gives' y) x xs same)
    ∙ ap (λ rest. option_or (gives' x) rest) (first_of-same_all gives gives' xs (All-tail (λ y. gives y ≡ gives' y) x xs same))

pub first_of-none : {X Y : Type 0} (gives : X → Option Y) (xs : List X) → ((x : X) → gives x ≡ None) → first_given gives xs ≡ None
first_of-none gives [] none = refl
first_of-none gives (x ∷ xs) none = ap (λ first. option_or first (first_given gives xs)) (none x) ∙ first_of-none gives xs none

-- a filter before it
pub first_of-filter : {X Y : Type 0} (gives : X → Option Y) (keeps : X → Bool) (xs : List X) → first_given gives (filter keeps xs) ≡ first_given (λ x. if keeps x then gives x else None) xs
first_of-filter gives keeps [] = refl
first_of-filter gives keeps (x ∷ xs) =
    elim (cases_Bool (keeps x)) [
      | inl kept ↦ rw kept (ap (λ rest. option_or (gives x) rest) (first_of-filter gives keeps xs))
      | inr left ↦ rw left (first_of-filter gives keeps xs)
    ]

-- what is done with the first
or_map : {Y Z : Type 0} (to : Y → Z) (first rest : Option Y) → option_or (option_map to first) (option_map to rest) ≡ option_map to (option_or first rest)
or_map to None rest = refl
or_map to (Some y) rest = refl

pub first_of-option_map : {X Y Z : Type 0} (gives : X → Option Y) (to : Y → Z) (xs : List X) → first_given (λ x. option_map to (gives x)) xs ≡ option_map to (first_given gives xs)
first_of-option_map gives to [] = refl
first_of-option_map gives to (x ∷ xs) = ap (λ rest. option_or (option_map to (gives x)) rest) (first_of-option_map gives to xs) ∙ or_map to (gives x) (first_given gives xs)

-- the first comes from one of the list
pub from_either : {Y : Type 0} (first rest : Option Y) (y : Y) → option_or first rest ≡ Some y → (first ≡ Some y) ⊎ (rest ≡ Some y)
from_either None rest y same = inr same
from_either (Some z) rest y same = inl same

pub first_of-from : {X Y : Type 0} (P : X → Type 0) (gives : X → Option Y) (xs : List X) (y : Y) → All P xs → first_given gives xs ≡ Some y → (x : X) × P x × (gives x ≡ Some y)
first_of-from P gives [] y all found = absurd (none-some y found)
first_of-from P gives (x ∷ xs) y all found =
    elim (from_either (gives x) (first_given gives xs) y found) [
      | inl here ↦ (x, All-head P x xs all, here)
      | inr later ↦ first_of-from P gives xs y (All-tail P x xs all) later
    ]

pub none_both : {Y : Type 0} (first rest : Option Y) → option_or first rest ≡ None → (first ≡ None) × (rest ≡ None)
none_both None rest none = (refl, none)
none_both (Some y) rest none = absurd (none-some y (sym none))

-- where one gives nothing and those behind it neither, nothing is found; and the other way round
pub none_each : {X Y : Type 0} (gives : X → Option Y) (xs : List X) → first_given gives xs ≡ None → All (λ x. gives x ≡ None) xs
none_each gives [] none = All-nil (λ x. gives x ≡ None)
none_each gives (x ∷ xs) none =
    let both = none_both (gives x) (first_given gives xs) none in
    All-cons (λ y. gives y ≡ None) x xs both.0 (none_each gives xs both.1)

-- ---- numbers in ascending order

-- where a test passes first, it is found
pub find-at : (test : ℕ → Bool) (low count k : ℕ) → low ≤ k → k < low + count → test k ≡ true → ((n : ℕ) → low ≤ n → n < k → test n ≡ false) → find test (range_with_len low count) ≡ Some k
find-at test low zero k above below passes before = absurd (omega arith)
find-at test low (suc count) k above below passes before =
    elim (cases_eq low k) [
      | inl here ↦ let first : test low ≡ true = ap test here ∙ passes in rw first (ap Some here)
      | inr other ↦
          let first : test low ≡ false = before low (omega arith) (omega arith) in
          rw first (find-at test (low + 1) count k (omega arith) (omega arith) passes (λ n from to. before n (omega arith) to))
    ]

-- and nowhere else
pub find-none : (test : ℕ → Bool) (low count : ℕ) → ((n : ℕ) → low ≤ n → n < low + count → test n ≡ false) → find test (range_with_len low count) ≡ None
find-none test low zero never = refl
find-none test low (suc count) never =
    let first : test low ≡ false = never low (omega arith) (omega arith) in
    rw first (find-none test (low + 1) count (λ n from to. never n (omega arith) (omega arith)))

-- tests that agree find the same
pub find-same : (test test' : ℕ → Bool) (low count : ℕ) → ((n : ℕ) → low ≤ n → n < low + count → test n ≡ test' n) → find test (range_with_len low count) ≡ find test' (range_with_len low count)
find-same test test' low zero same = refl
find-same test test' low (suc count) same =
    let first : test low ≡ test' low = same low (omega arith) (omega arith) in
    rw (first, find-same test test' (low + 1) count (λ n from to. same n (omega arith) (omega arith)))

-- what is found is where the test passes, and not before that
pub record IsFound (test : ℕ → Bool) (low count k : ℕ) : Type 0 where
  pub above : low ≤ k
  pub below : k < low + count
  pub passes : test k ≡ true
  pub before : (n : ℕ) → low ≤ n → n < k → test n ≡ false

pub found-is : (test : ℕ → Bool) (low count k : ℕ) → find test (range_with_len low count) ≡ Some k → IsFound test low count k
found-is test low zero k found = absurd (none-some k found)
found-is test low (suc count) k found =
    elim (cases_Bool (test low)) [
      | inl passes ↦
          let here : low ≡ k = same_Some low k (rw passes at found) in
          record { above = omega arith; below = omega arith; passes = ap test (sym here) ∙ passes; before = λ n from to. absurd (omega arith) }
      | inr fails ↦
          let rest = found-is test (low + 1) count k (rw fails at found) in
          record {
            above = omega (arith, rest.above);
            below = omega (arith, rest.below);
            passes = rest.passes;
            before = λ n from to. elim (cases_eq low n) [ inl here ↦ ap test (sym here) ∙ fails | inr other ↦ rest.before n (omega arith) to ];
          }
    ]

pub none-found : (test : ℕ → Bool) (low count : ℕ) → find test (range_with_len low count) ≡ None → (n : ℕ) → low ≤ n → n < low + count → test n ≡ false
none-found test low zero none n from to = absurd (omega arith)
none-found test low (suc count) none n from to =
    elim (cases_Bool (test low)) [
      | inl passes ↦ absurd (none-some low (sym (rw passes at none)))
      | inr fails ↦ elim (cases_eq low n) [ inl here ↦ ap test (sym here) ∙ fails | inr other ↦ none-found test (low + 1) count (rw fails at none) n (omega arith) (omega arith) ]
    ]
