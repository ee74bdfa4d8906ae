-- The text of the requirements of a row.
use Rattle.std.specs.Prelude.{ℕ, List, [], ◌∷◌, ◌++◌, Bool, ◌&&◌, codes}
use Rattle.std.specs.List.{join_by, list_all}
use Rattle.np_exposure.specs.Types.{Absent, Namespace, NoneOf, OneOf, Op, Pod, Present, Side, SidedRequirement}
use Rattle.np_labels.specs.Prelude.{is_well_requirement}
use Rattle.np_model.specs.Prelude.{is_worded}

abbrev pub named_side_text : Side → List ℕ
named_side_text Namespace = codes "namespace"
named_side_text Pod = codes "pod"

-- values, joined by commas
abbrev pub values_text : List (List ℕ) → List ℕ
values_text values = join_by (λ value. value) (codes ",") values

-- what is asked of the value of the key
abbrev pub asked_text : Op → List (List ℕ) → List ℕ
asked_text OneOf values = codes "In (" ++ values_text values ++ codes ")"
asked_text NoneOf values = codes "NotIn (" ++ values_text values ++ codes ")"
asked_text Present values = codes "Exists"
asked_text Absent values = codes "DoesNotExist"

-- the side, the key, and what is asked
abbrev pub requirement_text : SidedRequirement → List ℕ
requirement_text asked = named_side_text asked.side ++ codes " " ++ asked.requirement.key ++ codes " " ++ asked_text asked.requirement.op asked.requirement.values

-- the requirements, joined by ` and `
unfoldable pub peer_text : List SidedRequirement → List ℕ
peer_text [] = codes "{any pod}"
peer_text (first ∷ others) = codes "{" ++ join_by requirement_text (codes " and ") (first ∷ others) ++ codes "}"

-- Whether requirements are as the policies that are read have them: keys and values are words, no key is empty, and the
-- operator fits the values.
abbrev pub are_well : List SidedRequirement → Bool
are_well all = list_all (λ asked. is_worded asked.requirement && is_well_requirement asked.requirement) all
