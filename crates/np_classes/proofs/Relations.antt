-- Classes by a relation of places. For `agreeing_relations_have_the_same_classes`, `alike_places_have_one_class` and 3 more.
use Rattle.std.proofs.Common.{◌≡◌, ℕ, zero, suc, ◌<◌, ◌≤◌, length, get_or, Bool, true, false, not, ◌&&◌, Some, All, refl, sym, subst, ap, ◌∙◌, arith, eq-eqb}
use Rattle.std.specs.Prelude.{filter, slice_get}
use Rattle.std.specs.Bool.{◌==◌}
use Rattle.std.specs.List.{list_any, position_or_len}
use Rattle.std.specs.List.Sorted.{IsStrictlyIncreasing}
use Rattle.std.proofs.lemmas.Bool.{eqb-true, not-true, not-false, false_from_ne_true, true≢false}
use Rattle.std.proofs.lemmas.List.Elements.{All-filter, All-get_or, All-weaker, filter_passes}
use Rattle.std.proofs.lemmas.List.FromFn.{length-range_with_len}
use Rattle.std.proofs.lemmas.List.Kept.{AllPairs-from_increasing, IsStrictlyIncreasing-filter}
use Rattle.std.proofs.lemmas.List.Sums.{count_by-le-length, length-filter, passes_at_first, position_or_len_is}
use Rattle.std.proofs.lemmas.Option.{same_Some, slice_get-get_or, slice_get_within, get_or_from_slice_get}
use Rattle.std.specs.Cmp.{both_ways}
use Rattle.np_classes.specs.Classes.{IsAlike, class_of, firsts, is_first, members, places}
use Rattle.np_classes.proofs.Lists.{filter_agree_on, any_agree_on, any_weaker, any_filter, position_agree_on, position_within, places_increase, All-places, any_place, place_that_passes}

-- ---- first places

module _ (alike : ℕ → ℕ → Bool) where
  -- first places are places
  pub firsts_within : (count : ℕ) → All (λ first. first < count) (firsts alike count)
  unfolding firsts
  firsts_within count = All-filter (is_first alike) (λ first. first < count) (places count) (All-places (λ first. first < count) count (λ first below. below))

  -- there are no more first places than places
  pub firsts-le-count : (count : ℕ) → length (firsts alike count) ≤ count
  unfolding firsts
  firsts-le-count count = omega (arith, length-filter (is_first alike) (places count), count_by-le-length (is_first alike) (places count), length-range_with_len 0 count)

  -- a place that no earlier one is alike to is a first place
  in_firsts : (test : ℕ → Bool) (count place : ℕ) → place < count → is_first alike place ≡ true → test place ≡ true → list_any test (firsts alike count) ≡ true
  unfolding firsts
  in_firsts test count place within first passes =
      any_filter (is_first alike) test (places count)
      ∙ any_place (λ other. is_first alike other && test other) count place within (rw (first, passes) refl)

  -- each place is alike to a first one
  pub has_first : (count : ℕ) → IsAlike alike count → (below place : ℕ) → place < below → place < count → list_any (λ first. alike first place) (firsts alike count) ≡ true
  has_first count lawful zero place less within = absurd (omega arith)
  has_first count lawful (suc below) place less within = by (is_first alike place) refl (has_first count lawful below)
    where
      by : (b : Bool) → is_first alike place ≡ b → ((earlier : ℕ) → earlier < below → earlier < count → list_any (λ first. alike first earlier) (firsts alike count) ≡ true) →
          list_any (λ first. alike first place) (firsts alike count) ≡ true
      by true is rest = in_firsts (λ first. alike first place) count place within is (lawful.itself place within)
      by false is rest =
          let (earlier, before, tied) = place_that_passes (λ other. alike other place) place (not-false _ is) in
          let known : earlier < count = omega arith in
          any_weaker (λ first. alike first earlier) (λ first. alike first place) (firsts alike count)
          (All-weaker (λ first. first < count) (λ first. alike first earlier ≡ true → alike first place ≡ true)
          (λ first below_count near. lawful.onward first earlier place below_count known within near tied) (firsts alike count) (firsts_within count))
          (rest earlier (omega arith) known)

  -- each place is of a class
  pub class_within : (count : ℕ) → IsAlike alike count → (place : ℕ) → place < count → class_of alike count place < length (firsts alike count)
  unfolding class_of
  class_within count lawful place within =
      position_within (λ first. alike first place) (firsts alike count) (has_first count lawful (suc place) place (omega arith) within)

  -- a class of a place has a first one, which is alike to it
  pub first_of : (count : ℕ) → IsAlike alike count → (place : ℕ) → place < count →
      (first : ℕ) × (slice_get (firsts alike count) (class_of alike count place) ≡ Some first) × (first < count) × (alike first place ≡ true)
  unfolding class_of
  first_of count lawful place within =
      let at = class_of alike count place in
      let inside = class_within count lawful place within in (
        get_or (firsts alike count) at 0,
        slice_get-get_or (firsts alike count) at 0 inside,
        All-get_or (λ first. first < count) (firsts alike count) at 0 inside (firsts_within count),
        passes_at_first (λ first. alike first place) (firsts alike count) 0 inside,
      )

  -- and no other one is at its number
  pub first_at : (count : ℕ) → IsAlike alike count → (place first : ℕ) → place < count → slice_get (firsts alike count) (class_of alike count place) ≡ Some first →
      (first < count) × (alike first place ≡ true)
  first_at count lawful place first within is =
      let (other, at, below, tied) = first_of count lawful place within in
      let same : other ≡ first = same_Some other first (sym at ∙ is) in (
        subst (λ (n : ℕ). n < count) same below,
        subst (λ (n : ℕ). alike n place ≡ true) same tied,
      )

  -- a first place has no earlier one that is alike to it
  alone : (count : ℕ) → All (λ first. is_first alike first ≡ true) (firsts alike count)
  unfolding firsts
  alone count = filter_passes (is_first alike) (places count)

  ascending : (count : ℕ) → IsStrictlyIncreasing (firsts alike count)
  unfolding firsts
  ascending count = IsStrictlyIncreasing-filter (is_first alike) (places count) (places_increase count)

  earlier_apart : (place earlier : ℕ) → is_first alike place ≡ true → earlier < place → alike earlier place ≡ false
  earlier_apart place earlier first before =
      false_from_ne_true _ (λ tied. true≢false (sym (any_place (λ other. alike other place) place earlier before tied) ∙ not-true _ first))

  -- a first place is of the class that it stands for
  pub class_of_first : (count : ℕ) → IsAlike alike count → (number first : ℕ) → slice_get (firsts alike count) number ≡ Some first → class_of alike count first ≡ number
  unfolding class_of
  class_of_first count lawful number first is =
      let inside = slice_get_within (firsts alike count) number first is in
      let here = get_or_from_slice_get (firsts alike count) number first 0 is in
      let below = subst (λ (n : ℕ). n < count) here (All-get_or (λ other. other < count) (firsts alike count) number 0 inside (firsts_within count)) in
      let lone = subst (λ (n : ℕ). is_first alike n ≡ true) here (All-get_or (λ other. is_first alike other ≡ true) (firsts alike count) number 0 inside (alone count)) in
      position_or_len_is (λ other. alike other first) (firsts alike count) number 0 (omega arith)
      (λ k less. earlier_apart first (get_or (firsts alike count) k 0) lone
      (subst (λ (n : ℕ). get_or (firsts alike count) k 0 < n) here (AllPairs-from_increasing (firsts alike count) (ascending count) k number 0 less inside)))
      (λ _. subst (λ (n : ℕ). alike n first ≡ true) (sym here) (lawful.itself first below))

  -- ---- places of one class

  pub same_class : (count : ℕ) → IsAlike alike count → (a b : ℕ) → a < count → b < count → alike a b ≡ true → class_of alike count a ≡ class_of alike count b
  unfolding class_of
  same_class count lawful a b in_a in_b tied =
      position_agree_on (λ first. alike first a) (λ first. alike first b) (firsts alike count)
      (All-weaker (λ first. first < count) (λ first. alike first a ≡ alike first b)
      (λ first below. both_ways (alike first a) (alike first b)
      (λ near. lawful.onward first a b below in_a in_b near tied)
      (λ near. lawful.onward first b a below in_b in_a near (lawful.both_ways a b in_a in_b tied)))
      (firsts alike count) (firsts_within count))

  pub alike_in_class : (count : ℕ) → IsAlike alike count → (a b : ℕ) → a < count → b < count → class_of alike count a ≡ class_of alike count b → alike a b ≡ true
  alike_in_class count lawful a b in_a in_b same =
      let (first, at, below, near_a) = first_of count lawful a in_a in
      let near_b = (first_at count lawful b first in_b (ap (slice_get (firsts alike count)) (sym same) ∙ at)).1 in
      lawful.onward a first b in_a below in_b (lawful.both_ways first a below in_a near_a) near_b

  pub members_of_class : (count : ℕ) → IsAlike alike count → (place : ℕ) → place < count →
      members alike count place ≡ filter (λ other. class_of alike count other == class_of alike count place) (places count)
  unfolding members
  members_of_class count lawful place within =
      filter_agree_on (alike place) (λ other. class_of alike count other == class_of alike count place) (places count)
      (All-places (λ other. alike place other ≡ (class_of alike count other == class_of alike count place)) count
      (λ other below. both_ways (alike place other) (class_of alike count other == class_of alike count place)
      (λ tied. eq-eqb (class_of alike count other) (class_of alike count place) (sym (same_class count lawful place other within below tied)))
      (λ same. alike_in_class count lawful place other within below (sym (eqb-true (class_of alike count other) (class_of alike count place) same)))))

-- ---- relations that agree

module _ (alike other : ℕ → ℕ → Bool) (count : ℕ) (agree : (a b : ℕ) → a < count → b < count → alike a b ≡ other a b) where
  pub firsts_agree : firsts alike count ≡ firsts other count
  unfolding firsts
  firsts_agree =
      filter_agree_on (is_first alike) (is_first other) (places count)
      (All-places (λ place. is_first alike place ≡ is_first other place) count
      (λ place below. ap not (any_agree_on (λ earlier. alike earlier place) (λ earlier. other earlier place) (places place)
      (All-places (λ earlier. alike earlier place ≡ other earlier place) place (λ earlier before. agree earlier place (omega arith) below)))))

  pub members_agree : (place : ℕ) → place < count → members alike count place ≡ members other count place
  unfolding members
  members_agree place within =
      filter_agree_on (alike place) (other place) (places count)
      (All-places (λ b. alike place b ≡ other place b) count (λ b below. agree place b within below))

  pub class_of_agree : (place : ℕ) → place < count → class_of alike count place ≡ class_of other count place
  unfolding class_of
  class_of_agree place within =
      position_agree_on (λ first. alike first place) (λ first. other first place) (firsts alike count)
      (All-weaker (λ first. first < count) (λ first. alike first place ≡ other first place) (λ first below. agree first place below within) (firsts alike count) (firsts_within alike count))
      ∙ ap (position_or_len (λ first. other first place)) firsts_agree
