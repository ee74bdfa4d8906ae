-- The first place of the class of a place. For FlatFacts, FlatVerdicts and 3 more.
use Rattle.std.proofs.Common.{◌≡◌, ℕ, ◌<◌, ◌≤◌, Bool, true, not, Some, All, slice_index, slice_get, sym, ap, subst, ◌∙◌, inl, inr}
use Rattle.std.proofs.lemmas.Bool.{cases_lt, false≢true}
use Rattle.std.proofs.lemmas.List.Elements.{All-get_or, filter_passes}
use Rattle.std.proofs.lemmas.Option.{get_or_from_slice_get}
use Rattle.np_classes.proofs.Lists.{any_place}
use Rattle.np_classes.proofs.Relations.{class_of_first, class_within, first_of, same_class}
use Rattle.np_classes.specs.Classes.{IsAlike, class_of, firsts, is_first, places}

module _ (alike : ℕ → ℕ → Bool) (count : ℕ) (lawful : IsAlike alike count) where
  -- the first place of the class of one
  abbrev pub class_first : ℕ → ℕ
  class_first place = slice_index (firsts alike count) (class_of alike count place)

  first-is : (place : ℕ) (within : place < count) → class_first place ≡ (first_of alike count lawful place within).0
  first-is place within =
      let there = first_of alike count lawful place within in
      get_or_from_slice_get (firsts alike count) (class_of alike count place) there.0 0 there.1

  -- it stands at the number of the class
  pub first-get : (place : ℕ) → place < count → slice_get (firsts alike count) (class_of alike count place) ≡ Some (class_first place)
  first-get place within =
      let there = first_of alike count lawful place within in
      there.1 ∙ ap (λ (n : ℕ). Some n) (sym (first-is place within))

  -- it is a place
  pub first-in : (place : ℕ) → place < count → class_first place < count
  first-in place within = rw (first-is place within) ((first_of alike count lawful place within).2)

  -- which is alike to each of its class
  pub first-alike : (place : ℕ) → place < count → alike (class_first place) place ≡ true
  first-alike place within = rw (first-is place within) ((first_of alike count lawful place within).3)

  is-first : (place : ℕ) → place < count → is_first alike (class_first place) ≡ true
  unfolding firsts
  is-first place within =
      All-get_or (λ (first : ℕ). is_first alike first ≡ true) (firsts alike count) (class_of alike count place) 0 (class_within alike count lawful place within)
      (filter_passes (is_first alike) (places count))

  none_earlier : (first place : ℕ) → place < first → alike place first ≡ true → is_first alike first ≡ true → ⊥
  none_earlier first place before tied lone =
      false≢true (sym (ap not (any_place (λ (earlier : ℕ). alike earlier first) first place before tied)) ∙ lone)

  -- and not behind any of it
  pub first-low : (place : ℕ) → place < count → class_first place ≤ place
  first-low place within =
      elim (cases_lt place (class_first place)) [
        | inl before ↦ absurd (none_earlier (class_first place) place before (lawful.both_ways (class_first place) place (first-in place within) within (first-alike place within))
            (is-first place within))
        | inr after ↦ after
      ]

  -- no place of the class stands before it
  pub first-least : (place other : ℕ) → place < count → other < count → class_of alike count other ≡ class_of alike count place → class_first place ≤ other
  first-least place other within other_in same =
      subst (λ (n : ℕ). slice_index (firsts alike count) n ≤ other) same (first-low other other_in)

  -- it is of the class
  pub first-class : (place : ℕ) → place < count → class_of alike count (class_first place) ≡ class_of alike count place
  first-class place within = class_of_first alike count lawful (class_of alike count place) (class_first place) (first-get place within)

  -- so it is the first place of its own
  pub first-twice : (place : ℕ) → place < count → class_first (class_first place) ≡ class_first place
  first-twice place within = ap (slice_index (firsts alike count)) (first-class place within)

  -- alike places have one first
  pub first-same : (a b : ℕ) → a < count → b < count → alike a b ≡ true → class_first a ≡ class_first b
  first-same a b a_in b_in tied = ap (slice_index (firsts alike count)) (same_class alike count lawful a b a_in b_in tied)

  -- and places of one first are alike
  pub same-first : (a b : ℕ) → a < count → b < count → class_first a ≡ class_first b → alike a b ≡ true
  same-first a b a_in b_in same =
      lawful.onward a (class_first a) b a_in (first-in a a_in) b_in
      (lawful.both_ways (class_first a) a (first-in a a_in) a_in (first-alike a a_in))
      (subst (λ (n : ℕ). alike n b ≡ true) (sym same) (first-alike b b_in))

  -- what holds of all first places holds of it
  pub first-listed : (P : ℕ → Type 0) → All P (firsts alike count) → (place : ℕ) → place < count → P (class_first place)
  first-listed P all place within = All-get_or P (firsts alike count) (class_of alike count place) 0 (class_within alike count lawful place within) all
