-- When labels meet requirements and selectors.
use Rattle.std.specs.Prelude.{ℕ, List, [], ◌∷◌, Bool, true, false, not, Option, Some, None, is_some, is_none, refl}
use Rattle.std.specs.List.{list_any, list_all}
use Rattle.std.specs.Str.{bytes_eq}
use Rattle.np_labels.specs.DistinctAscends.{distinct-ascends}
use Rattle.np_labels.specs.Labels.{value_of}
use Rattle.np_labels.specs.Values.{distinct}
use Rattle.np_labels.specs.Types.{Absent, NoneOf, OneOf, Op, Pair, Present, Requirement, Selector}

-- whether a value is one of the listed ones
abbrev pub is_listed : List (List ℕ) → List ℕ → Bool
is_listed values value = list_any (λ listed. bytes_eq listed value) values

-- whether the value that a key has, or that it has none, is as asked
abbrev pub op_allows : Op → List (List ℕ) → Option (List ℕ) → Bool
op_allows OneOf values (Some value) = is_listed values value
op_allows OneOf values None = false
op_allows NoneOf values (Some value) = not (is_listed values value)
op_allows NoneOf values None = true
op_allows Present values found = is_some found
op_allows Absent values found = is_none found

-- whether labels meet a requirement
abbrev pub meets_requirement : Requirement → List Pair → Bool
meets_requirement requirement labels = op_allows requirement.op requirement.values (value_of labels requirement.key)

-- the requirement of a key, with these values in the order of their bytes, each once
abbrev pub requirement_of : List ℕ → Op → List (List ℕ) → Requirement
requirement_of key op values = record { key = key; op = op; values = distinct values; ascending = distinct-ascends values }

-- the requirement of one label: its key has its value
abbrev pub label_requirement : List ℕ × List ℕ → Requirement
label_requirement label = record { key = label.0; op = OneOf; values = label.1 ∷ []; ascending = refl }

-- whether labels meet all the requirements of a selector
abbrev pub meets_selector : Selector → List Pair → Bool
meets_selector selector labels = list_all (λ requirement. meets_requirement requirement labels) selector.requirements

-- what is asked by the requirement that is met exactly where one that asks this is not
abbrev pub opposite_of : Op → Op
opposite_of OneOf = NoneOf
opposite_of NoneOf = OneOf
opposite_of Present = Absent
opposite_of Absent = Present

-- the requirement that is met exactly where this one is not
abbrev pub negation_of : Requirement → Requirement
negation_of requirement = record requirement { op = opposite_of requirement.op }
