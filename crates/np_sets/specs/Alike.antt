-- Ranges between the same numbers.
use Rattle.std.specs.Prelude.{ℕ, List, [], ◌∷◌, Bool, true, false, ◌&&◌, ◌==◌}
use Rattle.np_base.specs.declared.range.Range.{Range}

-- whether two ranges are between the same numbers
abbrev pub is_alike : {P : Type 0} → (P → ℕ) → Range P → Range P → Bool
is_alike number_of a b = (number_of a.lo == number_of b.lo) && (number_of a.hi == number_of b.hi)

-- whether two lists have as many ranges, each between the numbers of the other list's
abbrev pub are_alike : {P : Type 0} → (P → ℕ) → List (Range P) → List (Range P) → Bool
are_alike number_of [] [] = true
are_alike number_of [] (b ∷ b_rest) = false
are_alike number_of (a ∷ a_rest) [] = false
are_alike number_of (a ∷ a_rest) (b ∷ b_rest) = is_alike number_of a b && are_alike number_of a_rest b_rest
