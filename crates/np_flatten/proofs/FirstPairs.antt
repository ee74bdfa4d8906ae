-- The first pair of numbers that passes a test. For AgreeLemmas, FlatFacts and 2 more.
use Rattle.std.proofs.Common.{◌≡◌, ℕ, zero, suc, ◌+◌, ◌<◌, ◌≤◌, List, Bool, true, false, Option, Some, None, map, flat_map, arith, refl, sym, ap, ◌∙◌, inl, inr, if◌then◌else◌}
use Rattle.std.specs.List.{find, range_with_len}
use Rattle.std.specs.Option.{option_or}
use Rattle.std.proofs.lemmas.Bool.{cases_eq}
use Rattle.std.proofs.lemmas.List.Folds.{find-append}
use Rattle.np_flatten.specs.Prelude.{first_pair}

module _ (test : ℕ → ℕ → Bool) where
  abbrev passes : ℕ × ℕ → Bool
  passes pair = test pair.0 pair.1

  abbrev row : ℕ → List ℕ → List (ℕ × ℕ)
  row a bs = map (λ b. (a, b)) bs

  -- ---- pairs of one first number

  row-none : (a from n : ℕ) → ((b : ℕ) → from ≤ b → b < from + n → test a b ≡ false) → find passes (row a (range_with_len from n)) ≡ None
  row-none a from zero none = refl
  row-none a from (suc n) none = rw (none from (omega arith) (omega arith)) (row-none a (from + 1) n (λ b low high. none b (omega arith) (omega arith)))

  row-some : (a b from n : ℕ) → from ≤ b → b < from + n → test a b ≡ true → ((y : ℕ) → from ≤ y → y < b → test a y ≡ false) → find passes (row a (range_with_len from n)) ≡ Some (a, b)
  row-some a b from zero low high is before = absurd (omega arith)
  row-some a b from (suc n) low high is before =
      elim (cases_eq from b) [
        | inl here ↦ let at : test a from ≡ true = ap (test a) here ∙ is in rw at (ap (λ (k : ℕ). Some (a, k)) here)
        | inr apart ↦ rw (before from (omega arith) (omega arith)) (row-some a b (from + 1) n (omega arith) (omega arith) is (λ y above below. before y (omega arith) below))
      ]

  row-from_none : (a from n : ℕ) → find passes (row a (range_with_len from n)) ≡ None → (b : ℕ) → from ≤ b → b < from + n → test a b ≡ false
  row-from_none a from zero none b low high = absurd (omega arith)
  row-from_none a from (suc n) none b low high = by (test a from) refl none (row-from_none a (from + 1) n)
    where
      by : (answer : Bool) → test a from ≡ answer → find passes (row a (range_with_len from (suc n))) ≡ None →
          (find passes (row a (range_with_len (from + 1) n)) ≡ None → (c : ℕ) → from + 1 ≤ c → c < from + 1 + n → test a c ≡ false) → test a b ≡ false
      by true is found rest = let never : Some (a, from) ≡ None = rw is at found in cc
      by false is found rest =
          elim (cases_eq from b) [
            | inl here ↦ sym (ap (test a) here) ∙ is
            | inr apart ↦ rest (rw is at found) b (omega arith) (omega arith)
          ]

  -- ---- all pairs

  abbrev rows : ℕ → List ℕ → List (ℕ × ℕ)
  rows count firsts = flat_map (λ a. row a (range_with_len 0 count)) firsts

  rows-none : (count from n : ℕ) → ((a b : ℕ) → from ≤ a → a < from + n → b < count → test a b ≡ false) → find passes (rows count (range_with_len from n)) ≡ None
  rows-none count from zero none = refl
  rows-none count from (suc n) none =
      find-append passes (row from (range_with_len 0 count)) (rows count (range_with_len (from + 1) n))
      ∙ ap (λ (o : Option (ℕ × ℕ)). option_or o (find passes (rows count (range_with_len (from + 1) n)))) (row-none from 0 count (λ b _ high. none from b (omega arith) (omega arith) (omega arith)))
      ∙ rows-none count (from + 1) n (λ a b low high below. none a b (omega arith) (omega arith) below)

  rows-some : (count a b from n : ℕ) → from ≤ a → a < from + n → b < count → test a b ≡ true → ((x y : ℕ) → x < a → y < count → test x y ≡ false) → ((y : ℕ) → y < b → test a y ≡ false) →
      find passes (rows count (range_with_len from n)) ≡ Some (a, b)
  rows-some count a b from zero low high below is earlier before = absurd (omega arith)
  rows-some count a b from (suc n) low high below is earlier before =
      elim (cases_eq a from) [
        | inl here ↦
            find-append passes (row from (range_with_len 0 count)) (rows count (range_with_len (from + 1) n))
            ∙ ap (λ (o : Option (ℕ × ℕ)). option_or o (find passes (rows count (range_with_len (from + 1) n))))
            (ap (λ (k : ℕ). find passes (row k (range_with_len 0 count))) (sym here) ∙ row-some a b 0 count (omega arith) (omega arith) is (λ y _ under. before y under))
        | inr apart ↦
            find-append passes (row from (range_with_len 0 count)) (rows count (range_with_len (from + 1) n))
            ∙ ap (λ (o : Option (ℕ × ℕ)). option_or o (find passes (rows count (range_with_len (from + 1) n)))) (row-none from 0 count (λ y _ under. earlier from y (omega arith) (omega arith)))
            ∙ rows-some count a b (from + 1) n (omega arith) (omega arith) below is earlier before
      ]

  none_of : (o p : Option (ℕ × ℕ)) → option_or o p ≡ None → (o ≡ None) × (p ≡ None)
  none_of None p is = (refl, is)
  none_of (Some x) p is = absurd (cc)

  rows-from_none : (count from n : ℕ) → find passes (rows count (range_with_len from n)) ≡ None → (a b : ℕ) → from ≤ a → a < from + n → b < count → test a b ≡ false
  rows-from_none count from zero none a b low high below = absurd (omega arith)
  rows-from_none count from (suc n) none a b low high below =
      let both = none_of (find passes (row from (range_with_len 0 count))) (find passes (rows count (range_with_len (from + 1) n)))
      (sym (find-append passes (row from (range_with_len 0 count)) (rows count (range_with_len (from + 1) n))) ∙ none) in
      elim (cases_eq a from) [
        | inl here ↦ ap (λ (k : ℕ). test k b) here ∙ row-from_none from 0 count both.0 b (omega arith) (omega arith)
        | inr apart ↦ rows-from_none count (from + 1) n both.1 a b (omega arith) (omega arith) below
      ]

  -- ---- the first of all

  -- none passes
  pub first_pair-none : (count : ℕ) → ((a b : ℕ) → a < count → b < count → test a b ≡ false) → first_pair test count ≡ None
  unfolding first_pair
  first_pair-none count none = rows-none count 0 count (λ a b _ high below. none a b (omega arith) below)

  -- one passes, and none before it
  pub first_pair-some : (count a b : ℕ) → a < count → b < count → test a b ≡ true → ((x y : ℕ) → x < a → y < count → test x y ≡ false) → ((y : ℕ) → y < b → test a y ≡ false) →
      first_pair test count ≡ Some (a, b)
  unfolding first_pair
  first_pair-some count a b high below is earlier before = rows-some count a b 0 count (omega arith) (omega arith) below is earlier before

  -- where there is no first pair none passes
  pub first_pair-from_none : (count : ℕ) → first_pair test count ≡ None → (a b : ℕ) → a < count → b < count → test a b ≡ false
  unfolding first_pair
  first_pair-from_none count none a b high below = rows-from_none count 0 count none a b (omega arith) (omega arith) below

  -- ---- what is first where there is one

  -- of pairs of one first number
  record IsFirstOfRow (a from n b : ℕ) : Type 0 where
    low : from ≤ b
    high : b < from + n
    is : test a b ≡ true
    before : (y : ℕ) → from ≤ y → y < b → test a y ≡ false

  row-first : (a from n : ℕ) (pair : ℕ × ℕ) → find passes (row a (range_with_len from n)) ≡ Some pair → (pair.0 ≡ a) × IsFirstOfRow a from n pair.1
  row-first a from zero pair found = absurd (cc)
  row-first a from (suc n) pair found = by (test a from) refl found (row-first a (from + 1) n pair)
    where
      by : (answer : Bool) → test a from ≡ answer → (if answer then Some (a, from) else find passes (row a (range_with_len (from + 1) n))) ≡ Some pair →
          (find passes (row a (range_with_len (from + 1) n)) ≡ Some pair → (pair.0 ≡ a) × IsFirstOfRow a (from + 1) n pair.1) → (pair.0 ≡ a) × IsFirstOfRow a from (suc n) pair.1
      by true is here again =
          let same : (a, from) ≡ pair = cc in
          let second : from ≡ pair.1 = ap (λ (p : ℕ × ℕ). p.1) same in (
            sym (ap (λ (p : ℕ × ℕ). p.0) same),
            record {
              low = omega (arith, second);
              high = omega (arith, second);
              is = ap (test a) (sym second) ∙ is;
              before = λ y above below. absurd
                  (omega (arith, second, above, below));
            },
          )
      by false is later again =
          let rest = again later in (
            rest.0,
            record {
              low = omega (arith, rest.1.low);
              high = omega (arith, rest.1.high);
              is = rest.1.is;
              before = λ y above below. elim (cases_eq from y) [
                | inl here ↦ ap (test a) (sym here) ∙ is
                | inr apart ↦ rest.1.before y (omega (arith, above, apart)) below
              ];
            },
          )

  -- of all pairs
  pub record IsFirst (count from n : ℕ) (pair : ℕ × ℕ) : Type 0 where
    pub low : from ≤ pair.0
    pub high : pair.0 < from + n
    pub within : pair.1 < count
    pub is : test pair.0 pair.1 ≡ true
    pub earlier : (x y : ℕ) → from ≤ x → x < pair.0 → y < count → test x y ≡ false
    pub before : (y : ℕ) → y < pair.1 → test pair.0 y ≡ false

  rows-first : (count from n : ℕ) (pair : ℕ × ℕ) → find passes (rows count (range_with_len from n)) ≡ Some pair → IsFirst count from n pair
  rows-first count from zero pair found = absurd (cc)
  rows-first count from (suc n) pair found =
      by (find passes (row from (range_with_len 0 count))) refl (sym (find-append passes (row from (range_with_len 0 count)) (rows count (range_with_len (from + 1) n))) ∙ found)
      (rows-first count (from + 1) n pair)
    where
      by : (here : Option (ℕ × ℕ)) → find passes (row from (range_with_len 0 count)) ≡ here → option_or here (find passes (rows count (range_with_len (from + 1) n))) ≡ Some pair →
          (find passes (rows count (range_with_len (from + 1) n)) ≡ Some pair → IsFirst count (from + 1) n pair) → IsFirst count from (suc n) pair
      by (Some one) is same again =
          let one_is : one ≡ pair = cc in
          let first = row-first from 0 count one is in
          let at : pair.0 ≡ from = sym (ap (λ (p : ℕ × ℕ). p.0) one_is) ∙ first.0 in
          let second : one.1 ≡ pair.1 = ap (λ (p : ℕ × ℕ). p.1) one_is in record {
            low = omega (arith, at);
            high = omega (arith, at);
            within = omega (arith, second, first.1.high);
            is = ap (λ (k : ℕ). test k pair.1) at ∙ ap (test from) (sym second) ∙ first.1.is;
            earlier = λ x y low high below. absurd (omega (arith, at, low, high));
            before = λ y below. ap (λ (k : ℕ). test k y) at ∙ first.1.before y (omega arith) (omega (arith, second, below));
          }
      by None is later again =
          let rest = again later in record {
            low = omega (arith, rest.low);
            high = omega (arith, rest.high);
            within = rest.within;
            is = rest.is;
            earlier = λ x y low high below. elim (cases_eq from x) [
              | inl here ↦ ap (λ (k : ℕ). test k y) (sym here) ∙ row-from_none from 0 count is y (omega arith) (omega (arith, below))
              | inr apart ↦ rest.earlier x y (omega (arith, low, apart)) high below
            ];
            before = rest.before;
          }

  -- the first pair passes, and none before it
  pub first_pair-is_first : (count : ℕ) (pair : ℕ × ℕ) → first_pair test count ≡ Some pair → IsFirst count 0 count pair
  unfolding first_pair
  first_pair-is_first count pair found = rows-first count 0 count pair found
