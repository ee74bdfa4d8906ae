-- JSON in short: objects by their members, some of which may be left out, and lists.
use Rattle.std.specs.Prelude.{ℕ, List, [], ◌∷◌, Option, Some, None, fold}
use Rattle.serde_json.specs.Data.{Data, Members, put}
use Rattle.np_written.specs.Values.{list_with}

-- a member, where there is a value for it
abbrev pub if_given : List ℕ → Option Data → List (List ℕ × Data)
if_given name None = []
if_given name (Some value) = (name, value) ∷ []

-- a member that lists values, where there are some
abbrev pub if_some : List ℕ → List Data → List (List ℕ × Data)
if_some name [] = []
if_some name (value ∷ values) = (name, list_with (value ∷ values)) ∷ []

-- members, and entries put in one after another
abbrev pub with_entries : Members → List (List ℕ × Data) → Members
with_entries members entries = fold (λ all entry. put entry.0 entry.1 all) members entries
