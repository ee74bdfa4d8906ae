-- What is noted of one key more. For `Classes::of` and `note`.
use Rattle.std.proofs.Common.{◌≡◌, ℕ, ◌+◌, ◌<◌, ◌≤◌, List, [], ◌∷◌, ◌++◌, length, map, get_or, Bool, true, false, cond, Option, Some, None, Ordering, refl, sym, ap, ◌∙◌}
use Rattle.std.specs.Prelude.{position, slice_get}
use Rattle.std.specs.BTreeMap.{BTreeMap, get}
use Rattle.std.specs.Cmp.{IsTotalOrder}
use Rattle.std.specs.List.{list_any, position_or_len}
use Rattle.std.specs.Option.{option_or}
use Rattle.std.specs.Ordering.{is_eq}
use Rattle.std.proofs.lemmas.List.{length_push}
use Rattle.std.proofs.lemmas.List.Elements.{All-weaker}
use Rattle.std.proofs.lemmas.List.FromFn.{length-map-range_with_len}
use Rattle.np_base.proofs.Lists.{slice_get-push_other, slice_get-push_same}
use Rattle.np_base.proofs.Options.{option_or-none}
use Rattle.np_classes.specs.Classes.{IsAlike, class_of, firsts, keys_tie, of_both, places}
use Rattle.np_classes.specs.Noted.{HoldsClasses, ties_at, class_by_key}
use Rattle.np_classes.proofs.Growing.{firsts_stay, firsts_grow, last_of_earlier, last_of_new, numbers_more}
use Rattle.np_classes.proofs.KeyTies.{keys_are_alike, tie-back, tie-onward}
use Rattle.np_classes.proofs.Lists.{map_agree_on, All-places, position_agree, at_position, no_position, position-push}
use Rattle.np_classes.proofs.Relations.{firsts_within, firsts-le-count, firsts_agree, class_of_agree}

-- of no key
pub HoldsClasses-none : {K : Type 0} (compare : K → K → Ordering) (known : BTreeMap K ℕ) → known.entries ≡ [] → HoldsClasses compare [] known [] []
unfolding firsts
HoldsClasses-none compare known empty = record {
  of_firsts = refl;
  of_places = refl;
  of_keys = λ key. rw empty refl;
}

module _ {K : Type 0} {compare : K → K → Ordering} {keys : List K} {known : BTreeMap K ℕ} {first_places numbers : List ℕ} (held : HoldsClasses compare keys known first_places numbers) where
  -- each place has a number
  pub held_all : length numbers ≡ length keys
  held_all = ap length held.of_places ∙ length-map-range_with_len (class_of (keys_tie compare keys) (length keys)) 0 (length keys)

  -- no more places are first ones
  pub held_among : length first_places ≤ length numbers
  held_among = rw (held_all, held.of_firsts) (firsts-le-count (keys_tie compare keys) (length keys))

module _ {K : Type 0} (compare : K → K → Ordering) (total : IsTotalOrder compare) (earlier : List K) (key : K) where
  abbrev count : ℕ
  count = length earlier

  abbrev later : List K
  later = earlier ++ key ∷ []

  abbrev alike : ℕ → ℕ → Bool
  alike = keys_tie compare later

  -- ties of the keys, with the last one
  lawful : IsAlike alike (count + 1)
  lawful = rw length_push at (keys_are_alike compare total later)

  -- the keys before stay at their places
  alike_before : (a b : ℕ) → a < count → b < count → keys_tie compare earlier a b ≡ alike a b
  alike_before a b in_a in_b = rw (slice_get-push_other earlier key a in_a, slice_get-push_other earlier key b in_b) refl

  -- so they have the classes that they had
  same_firsts : firsts (keys_tie compare earlier) count ≡ firsts alike count
  same_firsts = firsts_agree (keys_tie compare earlier) alike count alike_before

  same_numbers : map (class_of (keys_tie compare earlier) count) (places count) ≡ map (class_of alike count) (places count)
  same_numbers =
      map_agree_on (class_of (keys_tie compare earlier) count) (class_of alike count) (places count)
      (All-places (λ place. class_of (keys_tie compare earlier) count place ≡ class_of alike count place) count
      (class_of_agree (keys_tie compare earlier) alike count alike_before))

  -- the class of a key among the first places so far
  abbrev class_so_far : K → Option ℕ
  class_so_far other = position (ties_at compare later other) (firsts alike count)

  same_class_so_far : (other : K) → class_by_key compare earlier other ≡ class_so_far other
  same_class_so_far other =
      ap (position (ties_at compare earlier other)) same_firsts
      ∙ position_agree (ties_at compare earlier other) (ties_at compare later other) (firsts alike count)
      (All-weaker (λ first. first < count) (λ first. ties_at compare earlier other first ≡ ties_at compare later other first)
      (λ first below. rw (slice_get-push_other earlier key first below) refl) (firsts alike count) (firsts_within alike count))

  -- the last key is at the last place
  at_last : position (λ first. alike first count) (firsts alike count) ≡ class_so_far key
  at_last = rw (slice_get-push_same earlier key) refl

  -- a key of an earlier class
  pub HoldsClasses-earlier : (known : BTreeMap K ℕ) (first_places numbers more : List ℕ) (number : ℕ) → get compare known key ≡ Some number → more ≡ numbers ++ number ∷ []
      → HoldsClasses compare earlier known first_places numbers → HoldsClasses compare later known first_places more
  HoldsClasses-earlier known first_places numbers more number found put held = record {
    of_firsts = rw length_push (held.of_firsts ∙ same_firsts ∙ sym (firsts_stay alike count lawful some.0));
    of_places = put ∙ rw length_push (ap (λ (ns : List ℕ). ns ++ number ∷ []) (held.of_places ∙ same_numbers)
        ∙ sym (numbers_more alike count lawful ∙ ap (λ (n : ℕ). map (class_of alike count) (places count) ++ n ∷ []) (last_of_earlier alike count lawful some.0 ∙ some.1)));
    of_keys = λ other. held.of_keys other ∙ same_class_so_far other
        ∙ rw length_push (ap (position (ties_at compare later other)) (sym (firsts_stay alike count lawful some.0)));
  }
    where
      some : (list_any (λ first. alike first count) (firsts alike count) ≡ true) × (position_or_len (λ first. alike first count) (firsts alike count) ≡ number)
      some = at_position (λ first. alike first count) (firsts alike count) number (at_last ∙ sym (same_class_so_far key) ∙ sym (held.of_keys key) ∙ found)

  -- a key of a new class
  pub HoldsClasses-new : (known new : BTreeMap K ℕ) (first_places more_firsts numbers more : List ℕ) (place number : ℕ) → place ≡ length numbers → number ≡ length first_places →
      get compare known key ≡ None
      → more_firsts ≡ first_places ++ place ∷ [] → more ≡ numbers ++ number ∷ []
      → ((other : K) → get compare new other ≡ cond (is_eq (compare key other)) (Some number) (get compare known other))
      → HoldsClasses compare earlier known first_places numbers → HoldsClasses compare later new more_firsts more
  HoldsClasses-new known new first_places more_firsts numbers more place number at is free put_first put noted held = record {
    of_firsts = put_first ∙ rw length_push (rw (at ∙ held_all held) (ap (λ (fs : List ℕ). fs ++ count ∷ []) known_firsts ∙ sym grown));
    of_places = put ∙ rw length_push (rw in_number (ap (λ (ns : List ℕ). ns ++ length (firsts alike count) ∷ []) (held.of_places ∙ same_numbers)
        ∙ sym (numbers_more alike count lawful ∙ ap (λ (n : ℕ). map (class_of alike count) (places count) ++ n ∷ []) (last_of_new alike count lawful none))));
    of_keys = λ other. noted other ∙ by other (is_eq (compare key other)) refl
        ∙ sym (rw length_push (ap (position (ties_at compare later other)) grown ∙ position-push (ties_at compare later other) (firsts alike count) count
        ∙ ap (λ (last : Option K). option_or (class_so_far other) (cond (of_both (λ x y. is_eq (compare x y)) last (Some other)) (Some (length (firsts alike count))) None))
        (slice_get-push_same earlier key)));
  }
    where
      known_firsts : first_places ≡ firsts alike count
      known_firsts = held.of_firsts ∙ same_firsts

      in_number : number ≡ length (firsts alike count)
      in_number = is ∙ ap length known_firsts

      free_so_far : class_so_far key ≡ None
      free_so_far = sym (same_class_so_far key) ∙ sym (held.of_keys key) ∙ free

      none : list_any (λ first. alike first count) (firsts alike count) ≡ false
      none = no_position (λ first. alike first count) (firsts alike count) (at_last ∙ free_so_far)

      grown : firsts alike (count + 1) ≡ firsts alike count ++ count ∷ []
      grown = firsts_grow alike count lawful none

      -- a key that ties with the new one has no earlier class either
      tied_free : (other : K) → is_eq (compare key other) ≡ true → class_so_far other ≡ None
      tied_free other tied =
          position_agree (ties_at compare later other) (ties_at compare later key) (firsts alike count)
          (λ k d _. let read = slice_get later (get_or (firsts alike count) k d) in
          tie-back compare total read (Some other) ∙ sym (tie-onward compare total (Some key) (Some other) read tied) ∙ tie-back compare total (Some key) read)
          ∙ free_so_far

      by : (other : K) (b : Bool) → is_eq (compare key other) ≡ b → cond b (Some number) (get compare known other) ≡ option_or (class_so_far other) (cond b (Some (length (firsts alike count))) None)
      by other true tied = rw (tied_free other tied, in_number) refl
      by other false apart = held.of_keys other ∙ same_class_so_far other ∙ sym (option_or-none (class_so_far other))
