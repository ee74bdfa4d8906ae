-- Classes of places that are alike. Places are numbered from 0.
use Rattle.std.specs.Prelude.{ℕ, List, Bool, true, false, ◌≡◌, ◌<◌, not, filter, ◌==◌, Option, Some, slice_get, slice_index, length}
use Rattle.std.specs.List.{list_any, position_or_len, range_with_len}
use Rattle.std.specs.Ordering.{is_eq}
use Rattle.std.specs.declared.cmp.Ordering.{Ordering}

-- ---- by any relation of places

-- the places of a list of this length
abbrev pub places : ℕ → List ℕ
places count = range_with_len 0 count

-- whether no place before this one is alike to it
abbrev pub is_first : (ℕ → ℕ → Bool) → ℕ → Bool
is_first alike place = not (list_any (λ earlier. alike earlier place) (places place))

-- the first place of each class, in ascending order
unfoldable pub firsts : (ℕ → ℕ → Bool) → ℕ → List ℕ
firsts alike count = filter (is_first alike) (places count)

-- the places that are alike to one, in ascending order
unfoldable pub members : (ℕ → ℕ → Bool) → ℕ → ℕ → List ℕ
members alike count place = filter (alike place) (places count)

-- the number, from 0, of the class of a place, where classes are numbered by their first places
unfoldable pub class_of : (ℕ → ℕ → Bool) → ℕ → ℕ → ℕ
class_of alike count place = position_or_len (λ first. alike first place) (firsts alike count)

-- the relation is one of classes on the places of a list
pub record IsAlike (alike : ℕ → ℕ → Bool) (count : ℕ) : Type 0 where
  pub itself : (a : ℕ) → a < count → alike a a ≡ true
  pub both_ways : (a b : ℕ) → a < count → b < count → alike a b ≡ true → alike b a ≡ true
  pub onward : (a b c : ℕ) → a < count → b < count → c < count → alike a b ≡ true → alike b c ≡ true → alike a c ≡ true

-- ---- by keys

-- a question about two things that may be missing
abbrev pub of_both : {K : Type 0} → (K → K → Bool) → Option K → Option K → Bool
of_both ask (Some a) (Some b) = ask a b
of_both ask a b = false

-- whether the keys at two places tie in an order
abbrev pub keys_tie : {K : Type 0} → (K → K → Ordering) → List K → ℕ → ℕ → Bool
keys_tie compare keys a b = of_both (λ x y. is_eq (compare x y)) (slice_get keys a) (slice_get keys b)

-- ---- by numbers

-- the places that have a number, in ascending order
abbrev pub numbered : List ℕ → ℕ → List ℕ
numbered numbers number = filter (λ place. slice_index numbers place == number) (places (length numbers))
