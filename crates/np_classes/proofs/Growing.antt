-- Classes of one place more. For NoteSteps.
use Rattle.std.proofs.Common.{◌≡◌, ℕ, ◌+◌, ◌<◌, List, [], ◌∷◌, ◌++◌, length, map, Bool, true, false, cond, ◌&&◌, refl, sym, ap, ◌∙◌, arith}
use Rattle.std.specs.Prelude.{filter}
use Rattle.std.specs.List.{list_any, position_or_len}
use Rattle.std.proofs.lemmas.Bool.{and_parts, ne_eqb}
use Rattle.std.proofs.lemmas.List.{append-nil, map-append}
use Rattle.std.proofs.lemmas.List.Elements.{All-weaker, filter-append}
use Rattle.std.proofs.lemmas.List.Folds.{position_or_len_push}
use Rattle.std.specs.Cmp.{both_ways}
use Rattle.np_base.proofs.Lists.{slice_get-push_same}
use Rattle.np_classes.specs.Classes.{IsAlike, class_of, firsts, is_first, places}
use Rattle.np_classes.proofs.Lists.{any_weaker, any_filter, map_agree_on, places_more, All-places, place_that_passes}
use Rattle.np_classes.proofs.Relations.{firsts_within, has_first, class_within, class_of_first}

module _ (alike : ℕ → ℕ → Bool) (count : ℕ) (lawful : IsAlike alike (count + 1)) where
  -- the places before the last one
  abbrev tied_before : List ℕ → Bool
  tied_before = list_any (λ other. alike other count)

  -- the relation is lawful on the places before it too
  lawful_before : IsAlike alike count
  lawful_before = record {
    itself = λ a in_a. lawful.itself a (omega arith);
    both_ways = λ a b in_a in_b. lawful.both_ways a b (omega arith) (omega arith);
    onward = λ a b c in_a in_b in_c. lawful.onward a b c (omega arith) (omega arith) (omega arith);
  }

  -- where the last place is alike to an earlier one, it is alike to a first one
  tied_to_first : tied_before (places count) ≡ tied_before (firsts alike count)
  unfolding firsts
  tied_to_first = both_ways (tied_before (places count)) (tied_before (firsts alike count)) to from
    where
      to : tied_before (places count) ≡ true → tied_before (firsts alike count) ≡ true
      to found =
          let (earlier, before, tied) = place_that_passes (λ other. alike other count) count found in
          any_weaker (λ first. alike first earlier) (λ first. alike first count) (firsts alike count)
          (All-weaker (λ first. first < count) (λ first. alike first earlier ≡ true → alike first count ≡ true)
          (λ first below near. lawful.onward first earlier count (omega arith) (omega arith) (omega arith) near tied) (firsts alike count) (firsts_within alike count))
          (has_first alike count lawful_before count earlier before before)

      from : tied_before (firsts alike count) ≡ true → tied_before (places count) ≡ true
      from found =
          any_weaker (λ first. is_first alike first && alike first count) (λ first. alike first count) (places count)
          (All-places (λ first. (is_first alike first && alike first count) ≡ true → alike first count ≡ true) count
          (λ first _ both. (and_parts (is_first alike first) (alike first count) both).1))
          (sym (any_filter (is_first alike) (λ first. alike first count) (places count)) ∙ found)

  -- the first places, with the last place if it is one
  firsts_more : firsts alike (count + 1) ≡ firsts alike count ++ cond (is_first alike count) (count ∷ []) []
  unfolding firsts
  firsts_more = ap (filter (is_first alike)) (places_more count) ∙ filter-append (is_first alike) (places count) (count ∷ [])

  -- the last place is of an earlier class
  pub firsts_stay : tied_before (firsts alike count) ≡ true → firsts alike (count + 1) ≡ firsts alike count
  firsts_stay tied = firsts_more ∙ rw (tied_to_first, tied) (append-nil (firsts alike count))

  -- the last place is the first of its class
  pub firsts_grow : tied_before (firsts alike count) ≡ false → firsts alike (count + 1) ≡ firsts alike count ++ count ∷ []
  firsts_grow apart = firsts_more ∙ rw (tied_to_first, apart) refl

  -- the number of an earlier class
  pub last_of_earlier : tied_before (firsts alike count) ≡ true → class_of alike (count + 1) count ≡ position_or_len (λ first. alike first count) (firsts alike count)
  unfolding class_of
  last_of_earlier tied = ap (position_or_len (λ first. alike first count)) (firsts_stay tied)

  -- a new class has the next number
  pub last_of_new : tied_before (firsts alike count) ≡ false → class_of alike (count + 1) count ≡ length (firsts alike count)
  last_of_new apart =
      class_of_first alike (count + 1) lawful (length (firsts alike count)) count (rw (firsts_grow apart) (slice_get-push_same (firsts alike count) count))

  -- the classes of the places before stay as they are
  earlier_stay : (place : ℕ) → place < count → class_of alike (count + 1) place ≡ class_of alike count place
  unfolding class_of
  earlier_stay place within =
      let inside : position_or_len (λ first. alike first place) (firsts alike count) < length (firsts alike count) = class_within alike count lawful_before place within in
      ap (position_or_len (λ first. alike first place)) firsts_more ∙ by (is_first alike count) inside
    where
      by : (b : Bool) → position_or_len (λ first. alike first place) (firsts alike count) < length (firsts alike count) →
          position_or_len (λ first. alike first place) (firsts alike count ++ cond b (count ∷ []) []) ≡ position_or_len (λ first. alike first place) (firsts alike count)
      by true inside =
          position_or_len_push (λ first. alike first place) (firsts alike count) count
          ∙ rw (ne_eqb (position_or_len (λ first. alike first place) (firsts alike count)) (length (firsts alike count)) (λ same. absurd (omega arith))) refl
      by false inside = ap (position_or_len (λ first. alike first place)) (append-nil (firsts alike count))

  -- one number more
  pub numbers_more : map (class_of alike (count + 1)) (places (count + 1)) ≡ map (class_of alike count) (places count) ++ class_of alike (count + 1) count ∷ []
  numbers_more =
      ap (map (class_of alike (count + 1))) (places_more count) ∙ map-append (class_of alike (count + 1)) (places count) (count ∷ [])
      ∙ ap (λ (numbers : List ℕ). numbers ++ class_of alike (count + 1) count ∷ [])
      (map_agree_on (class_of alike (count + 1)) (class_of alike count) (places count)
      (All-places (λ place. class_of alike (count + 1) place ≡ class_of alike count place) count earlier_stay))
