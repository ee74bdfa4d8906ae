-- The choices as the walk over the requirements keeps them: what one requirement more leaves of them.
use Rattle.std.specs.Prelude.{ℕ, List, [], ◌∷◌, length, ◌==◌, map, filter, Bool, true, false, not, ◌&&◌, ◌||◌, Option, is_some, IsTrue}
use Rattle.std.specs.List.{AllByRecursion, list_all, list_any}
use Rattle.std.specs.Str.{bytes_eq}
use Rattle.np_exposure.specs.Choices.{Choices, allows_found, is_name_key, is_open}
use Rattle.np_exposure.specs.Mentions.{same_side}
use Rattle.np_exposure.specs.Strangers.{is_hypothetical, labels_at}
use Rattle.np_exposure.specs.Weight.{looks_at}
use Rattle.np_exposure.specs.Types.{SidedRequirement, Stranger}
use Rattle.np_labels.specs.Prelude.{value_of}
use Rattle.np_rules.specs.Prelude.{IsAmong}

abbrev pub as_wanted : Bool → Bool → Bool
as_wanted true b = b
as_wanted false b = not b

-- whether what is found is as wanted, where the requirement looks at this key, so that it is met or that it is not
abbrev pub suits : Bool → SidedRequirement → Choices → Option (List ℕ) → Bool
suits wanted asked choices found = not (looks_at choices.side choices.key asked) || as_wanted wanted (allows_found asked found)

-- whether some choice suits at each key
abbrev pub can_be : Bool → SidedRequirement → List Choices → Bool
can_be wanted asked state = list_all (λ choices. list_any (suits wanted asked choices) choices.found) state

-- the choices that suit
abbrev pub narrowed_at : Bool → SidedRequirement → Choices → Choices
narrowed_at wanted asked choices = record choices { found = filter (suits wanted asked choices) choices.found }

abbrev pub narrowed : Bool → SidedRequirement → List Choices → List Choices
narrowed wanted asked state = map (narrowed_at wanted asked) state

-- whether the requirement looks at one of the keys
abbrev pub is_at : List Choices → SidedRequirement → Bool
is_at state asked = list_any (λ choices. looks_at choices.side choices.key asked) state

-- whether the requirements all look at one of the keys
abbrev pub are_at : List Choices → List SidedRequirement → Bool
are_at state all = list_all (is_at state) all

abbrev pub is_made : Choices → Bool
is_made choices = length choices.found == 1

-- whether one choice is left at each key
abbrev pub is_decided : List Choices → Bool
is_decided state = list_all is_made state

-- whether the choices are at different keys or sides
abbrev pub are_apart : Choices → Choices → Bool
are_apart a b = not (same_side a.side b.side && bytes_eq a.key b.key)

-- no key of a side stands twice
abbrev pub is_apart : List Choices → Bool
is_apart [] = true
is_apart (choices ∷ others) = list_all (are_apart choices) others && is_apart others

-- under its name's key nothing is not found
abbrev pub is_named_at : Choices → Bool
is_named_at choices = not (is_name_key choices.side choices.key) || list_all (λ found. is_some found) choices.found

-- There is a choice at each key, no key of a side stands twice, and a namespace always has a name.
pub record IsState (state : List Choices) : Type 0 where
  pub «open» : IsTrue (is_open state)
  pub apart : IsTrue (is_apart state)
  pub named : IsTrue (list_all is_named_at state)

-- the labels of the stranger are among the choices
abbrev pub IsChosen : Stranger → Choices → Type 0
IsChosen s choices = IsAmong (value_of (labels_at choices.side s) choices.key) choices.found

-- a hypothetical pod with labels among the choices
pub record IsWitness (state : List Choices) (s : Stranger) : Type 0 where
  pub named : IsTrue (is_hypothetical s)
  pub chosen : AllByRecursion (IsChosen s) state
