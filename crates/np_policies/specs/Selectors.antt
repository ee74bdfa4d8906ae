-- Shapes of label selectors (Kubernetes API reference, LabelSelector and LabelSelectorRequirement).
use Rattle.std.specs.Prelude.{ℕ, List, [], ◌∷◌, ◌++◌, length, map, Bool, false, not, ◌&&◌, ◌||◌, ◌==◌, if◌then◌else◌, is_some, Option, Some, None, unwrap_or, codes, Ok}
use Rattle.std.specs.Map.{lookup}
use Rattle.std.specs.Str.{bytes_eq}
use Rattle.serde_json.specs.Data.{Data, Members, no_members, member}
use Rattle.serde_json.specs.Find.{as_object}
use Rattle.np_json.specs.Prelude.{Read, labels, listed, must_be_object, optional, passing, refuse, refuse_if, required, text, unless_null, word, ◌>>=◌, ◌>>◌}
use Rattle.np_model.specs.Prelude.{is_whole_word}
use Rattle.np_policies.specs.Types.{Absent, BadField, BadSelector, NoneOf, OneOf, Op, Present, Requirement, Selector}
use Rattle.np_labels.specs.Prelude.{fits, label_requirement, requirement_of}

-- the key of an expression: a word that is not empty, else BadField
unfoldable pub key : Data → Read (List ℕ)
key value = passing is_whole_word BadField (text value)

-- what an operator asks
abbrev pub op_named : List ℕ → Option Op
op_named s =
    lookup (bytes_eq s) ((codes "In", OneOf) ∷ (codes "NotIn", NoneOf) ∷ (codes "Exists", Present) ∷ (codes "DoesNotExist", Absent) ∷ [])

-- an operator that is known and fits, else BadSelector
abbrev pub fitting : Option Op → Bool → Read Op
fitting None has_values = refuse BadSelector
fitting (Some op) has_values = if fits op has_values then Ok op else refuse BadSelector

-- an entry of `matchExpressions`
unfoldable pub expression : Data → Read Requirement
expression value = must_be_object value >> do
  label ← required (codes "key") key value
  operator ← required (codes "operator") text value
  values ← listed (codes "values") word value
  op ← fitting (op_named operator) (not (length values == 0))
  Ok (requirement_of label op values)

-- whether the member is one that a selector does not have; a null counts as missing
abbrev pub is_other : List ℕ → Data → Bool
is_other name value = not (bytes_eq name (codes "matchLabels") || bytes_eq name (codes "matchExpressions")) && is_some (unless_null value)

abbrev pub have_other : Members → Bool
have_other no_members = false
have_other (member name value members) = is_other name value || have_other members

abbrev pub has_other : Option Members → Bool
has_other None = false
has_other (Some members) = have_other members

-- a selector
unfoldable pub selector : Data → Read Selector
selector value = must_be_object value >> do
  refuse_if (has_other (as_object value)) BadSelector
  pairs ← optional (codes "matchLabels") labels value
  expressions ← listed (codes "matchExpressions") expression value
  Ok (record { requirements = map label_requirement (unwrap_or pairs []) ++ expressions })

-- the selector that everything meets
abbrev pub everything : Selector
everything = record { requirements = [] }
