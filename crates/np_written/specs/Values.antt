-- JSON values in short.
use Rattle.std.specs.Prelude.{ℕ, List, [], ◌∷◌}
use Rattle.serde_json.specs.Data.{Data, array, object, Members, no_members, member}
use Rattle.serde_json.specs.View.{items_of}

-- members of these names and values
abbrev pub members_with : List (List ℕ × Data) → Members
members_with [] = no_members
members_with (entry ∷ entries) = member entry.0 entry.1 (members_with entries)

-- an object of these members
abbrev pub object_with : List (List ℕ × Data) → Data
object_with entries = object (members_with entries)

-- a list of these values
abbrev pub list_with : List Data → Data
list_with values = array (items_of values)
