-- The rows that the mentioned requirements give, one requirement after the other.
use Rattle.std.specs.Prelude.{◌≡◌, ◌≢◌, List, [], ◌∷◌, ◌++◌, map, IsTrue, ◌&&◌}
use Rattle.np_conns.specs.Prelude.{Conns}
use Rattle.np_exposure.specs.Mentions.{requirements}
use Rattle.np_exposure.specs.Strangers.{IsExposure, is_hypothetical, meets_all, negated}
use Rattle.np_exposure.specs.Types.{ExposureRow, SidedRequirement, Stranger}
use Rattle.np_rules.specs.Prelude.{PodSide}

-- the stranger is a hypothetical pod that meets what is assumed
abbrev pub IsAssumed : List SidedRequirement → Stranger → Type 0
IsAssumed assumed s = IsTrue (is_hypothetical s && meets_all assumed s)

-- some hypothetical pod meets what is assumed
abbrev pub IsPossible : List SidedRequirement → Type 0
IsPossible assumed = (s : Stranger) × IsAssumed assumed s

-- the set has exactly the spots of the exposure of each hypothetical pod that meets what is assumed
abbrev pub HasExposure : PodSide → List SidedRequirement → Conns → Type 0
HasExposure side assumed conns = (s : Stranger) → IsAssumed assumed s → IsExposure side s conns

-- the row with a requirement put first
abbrev pub with_first : SidedRequirement → ExposureRow → ExposureRow
with_first asked row = record row { requirements = asked ∷ row.requirements }

-- The rows where the requirement is met, and those where it is not, as one list. Equal lists are not kept apart.
pub data IsJoined (asked : SidedRequirement) (met unmet rows : List ExposureRow) : Type 0 where
  equal : met ≡ unmet → rows ≡ met → IsJoined asked met unmet rows
  apart : met ≢ unmet → rows ≡ map (with_first asked) met ++ unmet → IsJoined asked met unmet rows

-- The rows at a requirement, from those where it is met and those where it is not. Where only one can be, it is not asked.
pub data AreRowsAt (asked : SidedRequirement) (can_meet can_miss : Type 0) (Met Unmet : List ExposureRow → Type 0) (rows : List ExposureRow) : Type 0 where
  always : can_meet → ¬ can_miss → Met rows → AreRowsAt asked can_meet can_miss Met Unmet rows
  never : ¬ can_meet → can_miss → Unmet rows → AreRowsAt asked can_meet can_miss Met Unmet rows
  either : can_meet → can_miss → (met unmet : List ExposureRow) → Met met → Unmet unmet → IsJoined asked met unmet rows → AreRowsAt asked can_meet can_miss Met Unmet rows

-- The rows of the requirements that are left, where some are assumed: when none is left, one row of the exposure.
unfoldable pub AreRows : PodSide → List SidedRequirement → List SidedRequirement → List ExposureRow → Type 0
AreRows side [] assumed rows = (conns : Conns) × HasExposure side assumed conns × (rows ≡ record { requirements = []; conns = conns } ∷ [])
AreRows side (asked ∷ left) assumed rows =
    AreRowsAt asked (IsPossible (asked ∷ assumed)) (IsPossible (negated asked ∷ assumed)) (AreRows side left (asked ∷ assumed)) (AreRows side left (negated asked ∷ assumed)) rows

-- the rows of a pod's side: all mentioned requirements are left, and nothing is assumed
abbrev pub AreRowsOf : PodSide → List ExposureRow → Type 0
AreRowsOf side rows = AreRows side (requirements side) [] rows
