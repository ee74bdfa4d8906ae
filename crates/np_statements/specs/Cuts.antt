-- Texts cut at marks.
use Rattle.std.specs.Prelude.{ℕ, List, [], ◌∷◌, ◌==◌, Bool, map, Option, Some, None, is_some, if◌then◌else◌}
use Rattle.std.specs.Option.{option_and_then}
use Rattle.np_check.specs.Prelude.{first_given}

-- what stands in a text behind its beginning, where it begins so
unfoldable pub behind : List ℕ → List ℕ → Option (List ℕ)
behind [] text = Some text
behind (byte ∷ beginning) [] = None
behind (byte ∷ beginning) (first ∷ text) = if first == byte then behind beginning text else None

-- a text in two parts, cut at each of its places
unfoldable pub halves : List ℕ → List (List ℕ × List ℕ)
halves [] = ([], []) ∷ []
halves (byte ∷ text) = ([], byte ∷ text) ∷ map (λ half. (byte ∷ half.0, half.1)) (halves text)

-- what is made of the two parts of a text round a mark, at the first place of the mark where something is made
unfoldable pub first_cut : {Y : Type 0} → List ℕ → (List ℕ → List ℕ → Option Y) → List ℕ → Option Y
first_cut mark make text = first_given (λ half. option_and_then (make half.0) (behind mark half.1)) (halves text)

-- whether a mark stands somewhere in a text
unfoldable pub has_mark : List ℕ → List ℕ → Bool
has_mark mark text = is_some (first_cut mark (λ before after. Some after) text)
