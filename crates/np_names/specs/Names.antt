-- Names of things of which several may have one name. Things are known by their places, from 0.
use Rattle.std.specs.Prelude.{ℕ, ◌+◌, ◌≡◌, ◌∷◌, List, [], ◌++◌, ◌==◌, map, filter, fold, length, codes, decimal, if◌then◌else◌, slice_index_or}
use Rattle.std.specs.BTreeSet.{insert_key}
use Rattle.std.specs.Cmp.Lexicographic.{slice_cmp}
use Rattle.std.specs.List.{position_or_len, range_with_len}
use Rattle.std.specs.Ordering.{nat_cmp, ordering_then}
use Rattle.std.specs.Str.{bytes_eq}
use Rattle.std.specs.declared.cmp.Ordering.{Ordering}
use Rattle.np_names.specs.declared.named.Named.{Named}

-- ---- numbers behind names

-- the name that the thing at a place would have
abbrev pub wish_at : List (List ℕ) → ℕ → List ℕ
wish_at wishes place = slice_index_or wishes place []

-- the places of the things that would have the same name, in ascending order
abbrev pub namesakes : List (List ℕ) → ℕ → List ℕ
namesakes wishes place = filter (λ other. bytes_eq (wish_at wishes other) (wish_at wishes place)) (range_with_len 0 (length wishes))

-- nothing behind a name that only one thing has, else `#` and its number, from 1, among its namesakes
unfoldable pub suffix : List (List ℕ) → ℕ → List ℕ
suffix wishes place = if length (namesakes wishes place) == 1 then []
    else codes "#" ++ decimal (1 + position_or_len (λ other. other == place) (namesakes wishes place))

unfoldable pub name_at : List (List ℕ) → ℕ → List ℕ
name_at wishes place = wish_at wishes place ++ suffix wishes place

-- ---- things by their names

-- the thing of a name and a place
abbrev pub with_name : List ℕ → ℕ → Named
with_name name place = record { name = name; place = place }

abbrev pub named : List (List ℕ) → ℕ → Named
named wishes place = with_name (name_at wishes place) place

-- by the bytes of their names, and in one name by their places
abbrev pub compare_named : Named → Named → Ordering
compare_named a b = ordering_then (slice_cmp nat_cmp a.name b.name) (nat_cmp a.place b.place)

-- all things in the order of their places
abbrev pub all_in_turn : List (List ℕ) → List Named
all_in_turn wishes = map (named wishes) (range_with_len 0 (length wishes))

-- and in that of their names
unfoldable pub all_by_name : List (List ℕ) → List Named
all_by_name wishes = fold (insert_key compare_named) [] (all_in_turn wishes)

-- the number, from 0, at which the thing of a place stands there
abbrev pub number_of : List (List ℕ) → ℕ → ℕ
number_of wishes place = position_or_len (λ one. one.place == place) (all_by_name wishes)

-- ---- names without a number

-- the last byte is `]`, so it is no digit
abbrev pub EndsInBracket : List ℕ → Type 0
EndsInBracket text = (before : List ℕ) × (text ≡ before ++ 93 ∷ [])
