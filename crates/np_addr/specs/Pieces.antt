-- Texts cut at separators.
use Rattle.std.specs.Prelude.{ℕ, List, ◌==◌}
use Rattle.std.specs.List.{slice_split}

-- what stands between the separators of a text: one piece more than there are separators
abbrev pub pieces : ℕ → List ℕ → List (List ℕ)
pieces separator text = slice_split (λ c. c == separator) text
