-- The list of rows of a pod's side, as a function: the same as the relation of `Tree` says, with a test of what is possible
-- and one pod for all that have the same exposure.
use Rattle.std.specs.Prelude.{List, [], ◌∷◌, ◌++◌, map, Bool, true, false, ◌&&◌, if◌then◌else◌}
use Rattle.std.specs.Cmp.Lexicographic.{pointwise}
use Rattle.np_conns.specs.Prelude.{are_same_conns, conns_of}
use Rattle.np_exposure.specs.Choices.{can_be_assumed, choices_left, first_stranger}
use Rattle.np_exposure.specs.Mentions.{is_same, mentions, requirements}
use Rattle.np_exposure.specs.Strangers.{exposes, negated}
use Rattle.np_exposure.specs.Tree.{with_first}
use Rattle.np_exposure.specs.Types.{ExposureRow, SidedRequirement, Stranger}
use Rattle.np_rules.specs.Prelude.{PodSide}

-- ---- whether rows are equal

abbrev pub are_same_row : ExposureRow → ExposureRow → Bool
are_same_row a b = pointwise is_same a.requirements b.requirements && are_same_conns a.conns b.conns

abbrev pub are_same_rows : List ExposureRow → List ExposureRow → Bool
are_same_rows these those = pointwise are_same_row these those

-- ---- the rows

-- a row without requirements, with the exposure of a hypothetical pod
abbrev pub bare_row : PodSide → Stranger → ExposureRow
bare_row side s = record { requirements = []; conns = conns_of (exposes side s) }

-- The rows where the requirement is met, and those where it is not, as one list. Equal lists are not kept apart.
abbrev pub joined_rows : SidedRequirement → List ExposureRow → List ExposureRow → List ExposureRow
joined_rows asked met unmet = if are_same_rows met unmet then met else map (with_first asked) met ++ unmet

-- The rows at a requirement, by whether it can be met and can be missed. Where only one can be, it is not asked.
abbrev pub rows_at : SidedRequirement → Bool → Bool → List ExposureRow → List ExposureRow → List ExposureRow
rows_at asked true true met unmet = joined_rows asked met unmet
rows_at asked true false met unmet = met
rows_at asked false can_miss met unmet = unmet

-- The rows of the requirements that are left, where some are assumed: when none is left, one row, with the exposure of one
-- of the pods that meet what is assumed. All of them have the same.
unfoldable pub rows_left : PodSide → List SidedRequirement → List SidedRequirement → List ExposureRow
rows_left side [] assumed = bare_row side (first_stranger (choices_left (mentions side) assumed)) ∷ []
rows_left side (asked ∷ left) assumed =
    rows_at asked (can_be_assumed (mentions side) (asked ∷ assumed)) (can_be_assumed (mentions side) (negated asked ∷ assumed))
    (rows_left side left (asked ∷ assumed)) (rows_left side left (negated asked ∷ assumed))

-- the rows of a pod's side: all mentioned requirements are left, and nothing is assumed
abbrev pub rows_of : PodSide → List ExposureRow
rows_of side = rows_left side (requirements side) []
