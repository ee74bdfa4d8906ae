-- How the text of parts grows, part by part.
use Rattle.std.specs.Prelude.{ℕ, List, [], ◌∷◌, ◌++◌, codes}

-- the text of the parts so far with one more part, if there is one
abbrev pub with_part : List ℕ → List (List ℕ) → List ℕ
with_part text [] = text
with_part [] (part ∷ others) = part
with_part (byte ∷ bytes) (part ∷ others) = (byte ∷ bytes) ++ codes "; " ++ part
