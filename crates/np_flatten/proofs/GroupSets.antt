-- Where all numbers of a group agree, a set between two numbers depends on their groups alone. For FlatFacts.
use Rattle.std.proofs.Common.{◌≡◌, ◌≢◌, ℕ, ◌<◌, Bool, true, false, sym, ap, subst, ◌∙◌, inl, inr}
use Rattle.std.proofs.lemmas.Bool.{cases_Bool, cases_eq, true≢false}
use Rattle.np_flatten.specs.Prelude.{Agree}

module _ {C R : Type 0} (count : ℕ) (defined : ℕ → ℕ → Bool) (set : ℕ → ℕ → C) (own : ℕ → R) (group : ℕ → ℕ)
    (apart_defined : (x y : ℕ) → x ≢ y → defined x y ≡ true)
    (all_agree : (a b : ℕ) → a < count → b < count → a ≢ b → group a ≡ group b → Agree count defined set own a b) where
  -- where it is not defined the numbers are one
  undefined : (x y : ℕ) → defined x y ≡ false → x ≡ y
  undefined x y not =
      elim (cases_eq x y) [
        | inl same ↦ same
        | inr apart ↦ absurd (true≢false (sym (apart_defined x y apart) ∙ not))
      ]

  -- by the first number
  by_first : (a a' b : ℕ) → a < count → a' < count → b < count → group a ≡ group a' → defined a b ≡ true → defined a' b ≡ true → set a b ≡ set a' b
  by_first a a' b a_in a'_in b_in same is is' =
      elim (cases_eq a a') [
        | inl one ↦ ap (λ (n : ℕ). set n b) one
        | inr apart ↦
            let agree = all_agree a a' a_in a'_in apart same in
            elim (cases_eq b a) [
              | inl here ↦ ap (set a) here ∙ agree.first (subst (λ (n : ℕ). defined a n ≡ true) here is) ∙ agree.both_ways ∙ ap (set a') (sym here)
              | inr other ↦ elim (cases_eq b a') [
                | inl there ↦ ap (set a) there ∙ sym (agree.second (subst (λ (n : ℕ). defined a' n ≡ true) there is')) ∙ ap (set a') (sym there)
                | inr third ↦ agree.sends b b_in other third
              ]
            ]
      ]

  -- by the second
  by_second : (a b b' : ℕ) → a < count → b < count → b' < count → group b ≡ group b' → defined a b ≡ true → defined a b' ≡ true → set a b ≡ set a b'
  by_second a b b' a_in b_in b'_in same is is' =
      elim (cases_eq b b') [
        | inl one ↦ ap (set a) one
        | inr apart ↦
            let agree = all_agree b b' b_in b'_in apart same in
            elim (cases_eq a b) [
              | inl here ↦ ap (λ (n : ℕ). set n b) here ∙ agree.first (subst (λ (n : ℕ). defined n b ≡ true) here is) ∙ ap (λ (n : ℕ). set n b') (sym here)
              | inr other ↦ elim (cases_eq a b') [
                | inl there ↦ ap (λ (n : ℕ). set n b) there ∙ sym agree.both_ways ∙ sym (agree.second (subst (λ (n : ℕ). defined n b' ≡ true) there is')) ∙ ap (λ (n : ℕ). set n b') (sym there)
                | inr third ↦ agree.receives a a_in other third
              ]
            ]
      ]

  -- each way round is the same where it is not defined in between
  crossed : (a a' b b' : ℕ) → a < count → a' < count → group a ≡ group a' → defined a b ≡ true → defined a' b' ≡ true → defined a' b ≡ false → defined a b' ≡ false → set a b ≡ set a' b'
  crossed a a' b b' a_in a'_in same is is' not not' =
      let here : a' ≡ b = undefined a' b not in
      let there : a ≡ b' = undefined a b' not' in
      let apart : a ≢ a' = λ one. true≢false (sym is ∙ ap (λ (n : ℕ). defined n b) one ∙ not) in
      ap (set a) (sym here) ∙ (all_agree a a' a_in a'_in apart same).both_ways ∙ ap (set a') there

  pub one-set : (a a' b b' : ℕ) → a < count → a' < count → b < count → b' < count → group a ≡ group a' → group b ≡ group b' → defined a b ≡ true → defined a' b' ≡ true → set a b ≡ set a' b'
  one-set a a' b b' a_in a'_in b_in b'_in same same' is is' =
      elim (cases_Bool (defined a' b)) [
        | inl on ↦ by_first a a' b a_in a'_in b_in same is on ∙ by_second a' b b' a'_in b_in b'_in same' on is'
        | inr off ↦ elim (cases_Bool (defined a b')) [
          | inl on ↦ by_second a b b' a_in b_in b'_in same' is on ∙ by_first a a' b' a_in a'_in b'_in same on is'
          | inr off' ↦ crossed a a' b b' a_in a'_in same is is' off off'
        ]
      ]
