-- Selectors of labels that agree with some on given keys, and of one namespace.
use Rattle.std.specs.Prelude.{ℕ, List, [], ◌∷◌, map, codes, Option, Some, None}
use Rattle.np_labels.specs.Prelude.{label_requirement, requirement_of, value_of}
use Rattle.np_flatten.specs.Types.{Absent, Pair, Requirement, Selector}

-- a key has the value, or is absent where there is none
abbrev pub requirement_at : List ℕ → Option (List ℕ) → Requirement
requirement_at key (Some value) = label_requirement (key, value)
requirement_at key None = requirement_of key Absent []

-- a key is as labels have it
abbrev pub requirement_of_key : List Pair → List ℕ → Requirement
requirement_of_key labels key = requirement_at key (value_of labels key)

-- the selector of what has the same values of these keys as some labels
abbrev pub selector_of_keys : List (List ℕ) → List Pair → Selector
selector_of_keys keys labels = record { requirements = map (requirement_of_key labels) keys }

-- the selector of the namespace of a name
abbrev pub namespace_named : List ℕ → Selector
namespace_named name = record { requirements = label_requirement (codes "kubernetes.io/metadata.name", name) ∷ [] }
