-- Places by their numbers, with one place more. For `blanks` and `groups`.
use Rattle.std.proofs.Common.{◌≡◌, ◌⊎◌, inl, inr, ℕ, ◌+◌, ◌<◌, List, [], ◌∷◌, ◌++◌, length, map, get_or, Bool, cond, eq-eqb, refl, sym, ap, ◌∙◌, arith, zero-add}
use Rattle.std.specs.Prelude.{filter, slice_index, slice_index_or, slice_set}
use Rattle.std.specs.Bool.{◌==◌}
use Rattle.std.proofs.lemmas.Bool.{cases_eq, ne_eqb}
use Rattle.std.proofs.lemmas.List.{append-nil, get_or-set_other, get_or-set_same, get_or_append_left, length-set, length_push}
use Rattle.std.proofs.Math.Seq.{get_or-append_seam}
use Rattle.std.proofs.lemmas.List.Elements.{filter-append}
use Rattle.std.proofs.lemmas.List.FromFn.{fill_by_all, length-map-range_with_len, get_or-map-range_with_len, map-range_with_len_more}
use Rattle.np_classes.specs.Classes.{numbered, places}
use Rattle.np_classes.proofs.Lists.{filter_agree_on, All-places, places_more}

-- one empty list more
pub map_places_more : {X : Type 0} (f : ℕ → X) (count : ℕ) → map f (places (count + 1)) ≡ map f (places count) ++ f count ∷ []
map_places_more f count = map-range_with_len_more f 0 count count (zero-add count)

-- one number more
numbered-push : (numbers : List ℕ) (last number : ℕ) → numbered (numbers ++ last ∷ []) number ≡ numbered numbers number ++ cond (last == number) (length numbers ∷ []) []
numbered-push numbers last number =
    ap (λ (count : ℕ). filter has_number (places count)) (length_push numbers last)
    ∙ ap (filter has_number) (places_more (length numbers)) ∙ filter-append has_number (places (length numbers)) (length numbers ∷ [])
    ∙ rw (here, before) refl
  where
    has_number : ℕ → Bool
    has_number place = slice_index (numbers ++ last ∷ []) place == number

    here : slice_index (numbers ++ last ∷ []) (length numbers) ≡ last
    here = get_or-append_seam numbers last [] 0

    before : filter has_number (places (length numbers)) ≡ numbered numbers number
    before =
        filter_agree_on has_number (λ place. slice_index numbers place == number) (places (length numbers))
        (All-places (λ place. has_number place ≡ (slice_index numbers place == number)) (length numbers)
        (λ place below. ap (λ (n : ℕ). n == number) (get_or_append_left numbers (last ∷ []) 0 place below)))

-- the lists of all numbers, with a place put in the list of its number
pub numbered_more : (numbers : List ℕ) (count last : ℕ) (groups : List (List ℕ)) → last < count → groups ≡ map (numbered numbers) (places count)
    → slice_set groups last (slice_index_or groups last [] ++ length numbers ∷ []) ≡ map (numbered (numbers ++ last ∷ [])) (places count)
numbered_more numbers count last groups within are =
    fill_by_all (numbered (numbers ++ last ∷ [])) (slice_set groups last (slice_index_or groups last [] ++ length numbers ∷ [])) count []
    (length-set groups last (slice_index_or groups last [] ++ length numbers ∷ []) ∙ long)
    (λ number below. by number below (cases_eq number last))
  where
    long : length groups ≡ count
    long = ap length are ∙ length-map-range_with_len (numbered numbers) 0 count

    at : (number : ℕ) → number < count → get_or groups number [] ≡ numbered numbers number
    at number below = rw are (get_or-map-range_with_len (numbered numbers) 0 count number number [] below (zero-add number))

    by : (number : ℕ) → number < count → (number ≡ last) ⊎ (number ≡ last → ⊥) →
        get_or (slice_set groups last (slice_index_or groups last [] ++ length numbers ∷ [])) number [] ≡ numbered (numbers ++ last ∷ []) number
    by number below (inl same) =
        rw same (get_or-set_same groups last (slice_index_or groups last [] ++ length numbers ∷ []) [] (omega (arith, long))
        ∙ ap (λ (ns : List ℕ). ns ++ length numbers ∷ []) (at last within)
        ∙ sym (numbered-push numbers last last ∙ rw (eq-eqb last last refl) refl))
    by number below (inr apart) =
        get_or-set_other groups last number (slice_index_or groups last [] ++ length numbers ∷ []) [] apart ∙ at number below
        ∙ sym (numbered-push numbers last number ∙ rw (ne_eqb last number (λ same. apart (sym same))) (append-nil (numbered numbers number)))
