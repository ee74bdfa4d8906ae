-- Chains of owners. A list says for each place, from 0, the place directly over it, if any.
use Rattle.std.specs.Prelude.{ℕ, zero, suc, List, [], ◌∷◌, length, find, slice_get, slice_index_or, Bool, false, ◌&&◌, nat_eq, Option, All, ◌<◌, ◌^◌}
use Rattle.std.specs.List.{list_any, range_with_len}
use Rattle.std.specs.Option.{option_flatten, option_map_or, ForSome}

-- the places of the list, in order
abbrev pub places_of_owners : List (Option ℕ) → List ℕ
places_of_owners ups = range_with_len 0 (length ups)

-- what stands directly over a place; nothing does beyond the list
abbrev pub up : List (Option ℕ) → ℕ → Option ℕ
up ups place = option_flatten (slice_get ups place)

-- what stands over a place within so many steps, the nearest first
abbrev pub chain : List (Option ℕ) → ℕ → ℕ → List ℕ
chain ups zero place = []
chain ups (suc steps) place = option_map_or (λ above. above ∷ chain ups steps above) (up ups place) []

-- all that stands over a place: a chain without a cycle has no more places than there are
abbrev pub owners : List (Option ℕ) → ℕ → List ℕ
owners ups place = chain ups (length ups) place

-- the last of a place and those after it
abbrev pub last_of : ℕ → List ℕ → ℕ
last_of place [] = place
last_of place (next ∷ others) = last_of next others

-- the last of a place and its owners
abbrev pub top : List (Option ℕ) → ℕ → ℕ
top ups place = last_of place (owners ups place)

-- whether a place is one of its own owners
abbrev pub owns_itself : List (Option ℕ) → ℕ → Bool
owns_itself ups place = list_any (λ owner. nat_eq owner place) (owners ups place)

-- the first place that owns itself
abbrev pub first_cycle : List (Option ℕ) → Option ℕ
first_cycle ups = find (owns_itself ups) (places_of_owners ups)

-- whether a place is the other one or one of its owners
abbrev pub is_at_or_over : List (Option ℕ) → ℕ → ℕ → Bool
is_at_or_over ups above place = list_any (λ owner. nat_eq owner above) (place ∷ owners ups place)

-- whether a place is marked; none is beyond the list
abbrev pub is_marked : List Bool → ℕ → Bool
is_marked marks place = slice_index_or marks place false

-- whether a place is a start or stands over one
abbrev pub is_over_some : List (Option ℕ) → List Bool → ℕ → Bool
is_over_some ups starts above = list_any (λ place. is_marked starts place && is_at_or_over ups above place) (places_of_owners ups)

-- what stands directly over a place is a place of the list, and there are few enough places
pub record IsChains (ups : List (Option ℕ)) : Type 0 where
  pub within : All (λ above. ForSome above (λ place. place < length ups)) ups
  pub few : length ups < 2 ^ 32
