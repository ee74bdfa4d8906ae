-- Pairs of numbers below a count.
use Rattle.std.specs.Prelude.{ℕ, List, Bool, map, find, flat_map, Option}
use Rattle.np_classes.specs.Classes.{places}

-- all of them, by the first number and then by the second
abbrev pub pairs_below : ℕ → List (ℕ × ℕ)
pairs_below count = flat_map (λ a. map (λ b. (a, b)) (places count)) (places count)

-- the first of them that passes a test
unfoldable pub first_pair : (ℕ → ℕ → Bool) → ℕ → Option (ℕ × ℕ)
first_pair test count = find (λ pair. test pair.0 pair.1) (pairs_below count)
