-- The texts of paths.
use Rattle.std.specs.Prelude.{ℕ, List, [], ◌∷◌, ◌++◌, codes, decimal}
use Rattle.std.specs.List.{flat_map}
use Rattle.np_json.specs.Types.{Field, Item, Step}

-- a step that nothing stands before
abbrev pub first_text : Step → List ℕ
first_text (Field name) = name
first_text (Item place) = codes "[" ++ decimal place ++ codes "]"

-- a step after another
abbrev pub further_text : Step → List ℕ
further_text (Field name) = codes "." ++ name
further_text (Item place) = codes "[" ++ decimal place ++ codes "]"

-- `spec.ingress[0].from[0]`; the path of no step is `(whole)`
abbrev pub path_text : List Step → List ℕ
path_text [] = codes "(whole)"
path_text (step ∷ steps) = first_text step ++ flat_map further_text steps
