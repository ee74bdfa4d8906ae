-- The values that a requirement lists.
use Rattle.std.specs.Prelude.{ℕ, List, [], ◌∷◌, fold, Bool, true, ◌&&◌}
use Rattle.std.specs.BTreeSet.{insert_key}
use Rattle.std.specs.Cmp.Lexicographic.{slice_cmp}
use Rattle.std.specs.List.{list_all}
use Rattle.std.specs.Ordering.{nat_cmp, is_lt}

-- whether a text is below another in the order of their bytes
abbrev pub is_below : List ℕ → List ℕ → Bool
is_below text other = is_lt (slice_cmp nat_cmp text other)

-- whether each value is below those after it, so that each stands once
abbrev pub is_ascending : List (List ℕ) → Bool
is_ascending [] = true
is_ascending (value ∷ values) = list_all (is_below value) values && is_ascending values

-- the values in the order of their bytes, each once
abbrev pub distinct : List (List ℕ) → List (List ℕ)
distinct values = fold (insert_key (slice_cmp nat_cmp)) [] values
