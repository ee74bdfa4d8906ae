-- One more number, and the least pair. For `first_unlike`.
use Rattle.std.proofs.Common.{◌≡◌, ◌≢◌, ◌⊎◌, ℕ, ◌<◌, List, [], ◌∷◌, ◌++◌, Bool, true, false, not, ◌&&◌, ◌==◌, nat_lt, if◌then◌else◌, All, Option, Some, None, refl, sym, ap, ◌∙◌, inl, inr, arith, eq-eqb}
use Rattle.std.proofs.lemmas.Bool.{and_cases, and_from, and_parts, eqb-true, false_from_ne_true, lt-ltb, ltb-true, not-false, or_cases, or_left, or_right, true≢false}
use Rattle.std.proofs.lemmas.List.Elements.{All-append, All-cons, All-nil, All-weaker}
use Rattle.np_flatten.specs.Prelude.{IsLeast, IsLike, IsNotBefore, comes_before, stands_before, with_number}

-- ---- the order of pairs

-- what the test says
abbrev Before : ℕ → ℕ → ℕ × ℕ → Type 0
Before a b pair = (a < pair.0) ⊎ ((a ≡ pair.0) × (b < pair.1))

before-from : (a b : ℕ) (pair : ℕ × ℕ) → stands_before a b pair ≡ true → Before a b pair
before-from a b pair is =
    elim (or_cases (nat_lt a pair.0) (a == pair.0 && nat_lt b pair.1) is) [
      | inl less ↦ inl (ltb-true a pair.0 less)
      | inr same ↦ let both = and_parts (a == pair.0) (nat_lt b pair.1) same in inr (eqb-true a pair.0 both.0, ltb-true b pair.1 both.1)
    ]

to-before : (a b : ℕ) (pair : ℕ × ℕ) → Before a b pair → stands_before a b pair ≡ true
to-before a b pair (inl less) = or_left (nat_lt a pair.0) (a == pair.0 && nat_lt b pair.1) (lt-ltb a pair.0 less)
to-before a b pair (inr same) = or_right (nat_lt a pair.0) (a == pair.0 && nat_lt b pair.1) (and_from (a == pair.0) (nat_lt b pair.1) (eq-eqb a pair.0 same.0) (lt-ltb b pair.1 same.1))

before-trans : (a b : ℕ) (one other : ℕ × ℕ) → Before a b one → Before one.0 one.1 other → Before a b other
before-trans a b one other (inl less) (inl more) = inl (omega (arith, less, more))
before-trans a b one other (inl less) (inr same) = inl (omega (arith, less, same.0))
before-trans a b one other (inr same) (inl more) = inl (omega (arith, same.0, more))
before-trans a b one other (inr same) (inr also) = inr (same.0 ∙ also.0, omega (arith, same.1, also.1))

not_itself : (a b : ℕ) → Before a b (a, b) → ⊥
not_itself a b (inl less) = omega (arith, less)
not_itself a b (inr same) = omega (arith, same.1)

-- a number that does not stand before a pair does not stand before one that is before it
not-before : (a b : ℕ) (one other : ℕ × ℕ) → stands_before one.0 one.1 other ≡ true → stands_before a b other ≡ false → stands_before a b one ≡ false
not-before a b one other less not_so =
    false_from_ne_true (stands_before a b one) (λ yes.
    true≢false (sym (to-before a b other (before-trans a b one other (before-from a b one yes) (before-from one.0 one.1 other less))) ∙ not_so))

own-not : (a b : ℕ) → stands_before a b (a, b) ≡ false
own-not a b = false_from_ne_true (stands_before a b (a, b)) (λ yes. not_itself a b (before-from a b (a, b) yes))

-- ---- one more number

module _ (count : ℕ) (first : ℕ → ℕ) (differ : ℕ → ℕ → Bool) (xs : List ℕ) (w : ℕ) where
  more : (P : ℕ → Type 0) → All P xs → P w → All P (xs ++ w ∷ [])
  more P all here = All-append P xs (w ∷ []) all (All-cons P w [] here (All-nil P))

  -- one that is like the first of its group
  like_more : (found : Option (ℕ × ℕ)) → IsLeast count first differ xs found → IsLike first differ w → IsLeast count first differ (xs ++ w ∷ []) found
  like_more None least like = more (IsLike first differ) least like
  like_more (Some pair) least like = (least.0, more (IsNotBefore first differ pair) least.1 (inl like))

  -- one that does not come before
  pub least-skip : (found : Option (ℕ × ℕ)) → IsLeast count first differ xs found → comes_before (first w) w found ≡ false → IsLeast count first differ (xs ++ w ∷ []) found
  least-skip None least not_so = more (IsLike first differ) least (inl (eqb-true (first w) w (not-false (first w == w) not_so)))
  least-skip (Some pair) least not_so = (
    least.0,
    more (IsNotBefore first differ pair) least.1 (elim (and_cases (not (first w == w)) (stands_before (first w) w pair) not_so) [
      | inl own ↦ inl (inl (eqb-true (first w) w (not-false (first w == w) own)))
      | inr behind ↦ inr behind
    ]),
  )

  -- one that does not differ
  pub least-like : (found : Option (ℕ × ℕ)) → IsLeast count first differ xs found → differ (first w) w ≡ false → IsLeast count first differ (xs ++ w ∷ []) found
  least-like found least same = like_more found least (inr same)

  apart_of : (found : Option (ℕ × ℕ)) → comes_before (first w) w found ≡ true → not (first w == w) ≡ true
  apart_of None is = is
  apart_of (Some pair) is = (and_parts (not (first w == w)) (stands_before (first w) w pair) is).0

  -- one that comes before is not the first of its group
  pub comes-apart : (found : Option (ℕ × ℕ)) → comes_before (first w) w found ≡ true → first w ≢ w
  comes-apart found is same = true≢false (sym (apart_of found is) ∙ ap not (eq-eqb (first w) w same))

  -- one that comes before and differs
  pub least-found : (found : Option (ℕ × ℕ)) → w < count → IsLeast count first differ xs found → comes_before (first w) w found ≡ true → differ (first w) w ≡ true →
      IsLeast count first differ (xs ++ w ∷ []) (Some (first w, w))
  least-found found within least is differs = (
    record { within = within; of_group = refl; apart = comes-apart found is; differ_so = differs },
    more (IsNotBefore first differ (first w, w)) (others found least is) (inr (own-not (first w) w)),
  )
    where
      others : (o : Option (ℕ × ℕ)) → IsLeast count first differ xs o → comes_before (first w) w o ≡ true → All (IsNotBefore first differ (first w, w)) xs
      others None all _ = All-weaker (IsLike first differ) (IsNotBefore first differ (first w, w)) (λ v like. inl like) xs all
      others (Some pair) all before =
          let less = (and_parts (not (first w == w)) (stands_before (first w) w pair) before).1 in
          All-weaker (IsNotBefore first differ pair) (IsNotBefore first differ (first w, w)) (weaker pair less) xs all.1
        where
          weaker : (pair : ℕ × ℕ) → stands_before (first w) w pair ≡ true → (v : ℕ) → IsNotBefore first differ pair v → IsNotBefore first differ (first w, w) v
          weaker pair less v (inl like) = inl like
          weaker pair less v (inr behind) = inr (not-before (first v) v (first w, w) pair less behind)

  -- so it goes on
  pub least-more : (found : Option (ℕ × ℕ)) → w < count → IsLeast count first differ xs found → IsLeast count first differ (xs ++ w ∷ []) (with_number differ (first w) w found)
  least-more found within least = by (comes_before (first w) w found) (differ (first w) w) refl refl
    where
      by : (comes differs : Bool) → comes_before (first w) w found ≡ comes → differ (first w) w ≡ differs →
          IsLeast count first differ (xs ++ w ∷ []) (if comes && differs then Some (first w, w) else found)
      by true true is is' = least-found found within least is is'
      by true false is is' = least-like found least is'
      by false differs is is' = least-skip found least is
