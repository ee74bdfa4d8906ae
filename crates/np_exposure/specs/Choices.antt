-- What may be found at the mentioned keys of labels, and whether some hypothetical pod meets what is assumed.
use Rattle.std.specs.Prelude.{ℕ, List, [], ◌∷◌, ◌++◌, map, filter, flat_map, Bool, true, not, ◌&&◌, ◌||◌, Option, Some, None, if◌then◌else◌, codes}
use Rattle.std.specs.List.{list_all, list_any}
use Rattle.std.specs.Str.{bytes_eq}
use Rattle.np_exposure.specs.Mentions.{same_side}
use Rattle.np_exposure.specs.Weight.{keys_on, looks_at, values_at}
use Rattle.np_exposure.specs.Types.{MentionedKey, Namespace, Pair, Pod, Side, SidedRequirement, Stranger}
use Rattle.np_labels.specs.Prelude.{op_allows}

-- what may be found at a key of a side's labels: one of these values, or none
pub record Choices : Type 0 where
  pub side : Side
  pub key : List ℕ
  pub found : List (Option (List ℕ))

-- ---- all choices: to every mentioned requirement each other value is the same as one of these

-- a namespace always has a name
abbrev pub is_name_key : Side → List ℕ → Bool
is_name_key side key = same_side side Namespace && bytes_eq key (codes "kubernetes.io/metadata.name")

-- a text that is longer than all of these together, and so none of them
abbrev pub other_than : List (List ℕ) → List ℕ
other_than values = flat_map (λ value. value) values ++ codes "a"

-- a key that is mentioned on a side, with the values that are, and another one
abbrev pub label_at : Side → List SidedRequirement → List ℕ → MentionedKey
label_at side all key = record { side = side; key = key; values = values_at side key all; other = other_than (values_at side key all) }

abbrev pub labels_on : Side → List SidedRequirement → List MentionedKey
labels_on side all = map (label_at side all) (keys_on side all)

-- all mentioned keys, those of namespaces first
abbrev pub mentioned_keys : List SidedRequirement → List MentionedKey
mentioned_keys all = labels_on Namespace all ++ labels_on Pod all

-- the mentioned values, the other one, and that there is none
abbrev pub choices_of : MentionedKey → Choices
choices_of label =
    record { side = label.side; key = label.key; found = map Some label.values ++ Some label.other ∷ (if is_name_key label.side label.key then [] else None ∷ []) }

abbrev pub choices_at_first : List SidedRequirement → List Choices
choices_at_first all = map choices_of (mentioned_keys all)

-- ---- the choices that are left by what is assumed

-- whether the requirement allows what is found at its key
abbrev pub allows_found : SidedRequirement → Option (List ℕ) → Bool
allows_found asked found = op_allows asked.requirement.op asked.requirement.values found

-- whether all that is assumed of the key allows what is found there
abbrev pub fits_assumed : List SidedRequirement → Choices → Option (List ℕ) → Bool
fits_assumed assumed choices found = list_all (λ asked. not (looks_at choices.side choices.key asked) || allows_found asked found) assumed

abbrev pub left_at : List SidedRequirement → Choices → Choices
left_at assumed choices = record choices { found = filter (fits_assumed assumed choices) choices.found }

-- at each key the choices that fit
abbrev pub choices_left : List SidedRequirement → List SidedRequirement → List Choices
choices_left all assumed = map (left_at assumed) (choices_at_first all)

abbrev pub has_choice : Choices → Bool
has_choice choices = list_any (λ found. true) choices.found

-- whether there is a choice at each key
abbrev pub is_open : List Choices → Bool
is_open state = list_all has_choice state

-- whether some hypothetical pod meets what is assumed: at each mentioned key a choice is left
abbrev pub can_be_assumed : List SidedRequirement → List SidedRequirement → Bool
can_be_assumed all assumed = is_open (choices_left all assumed)

-- ---- a hypothetical pod of the first choices

-- the first choice
abbrev pub first_found : List (Option (List ℕ)) → Option (List ℕ)
first_found [] = None
first_found (found ∷ others) = found

-- the first choice of a key, where that is of the side
abbrev pub first_on : Side → Choices → Option (List ℕ)
first_on side choices = if same_side choices.side side then first_found choices.found else None

-- a label, if there is a value
abbrev pub label_if : List ℕ → Option (List ℕ) → List Pair
label_if key None = []
label_if key (Some value) = record { key = key; value = value } ∷ []

-- the label of the first choice of a key, where that is of the side and a value
abbrev pub first_label : Side → Choices → List Pair
first_label side choices = label_if choices.key (first_on side choices)

-- The pod that has the first choice at each key. Where no choice is its namespace's name, that is `a`.
abbrev pub first_stranger : List Choices → Stranger
first_stranger state = record {
  namespace = flat_map (first_label Namespace) state ++ record { key = codes "kubernetes.io/metadata.name"; value = codes "a" } ∷ [];
  labels = flat_map (first_label Pod) state;
}
