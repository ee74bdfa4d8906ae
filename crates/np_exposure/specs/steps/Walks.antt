-- The rows of a walk over the requirements, with the choices that are left.
use Rattle.std.specs.Prelude.{◌≡◌, List, [], ◌∷◌, Bool, true, false, not, Option, Some, None, if◌then◌else◌}
use Rattle.np_conns.specs.Prelude.{Conns}
use Rattle.np_exposure.specs.Strangers.{IsExposure}
use Rattle.np_exposure.specs.Tree.{IsJoined}
use Rattle.np_exposure.specs.Types.{ExposureRow, Pending, SidedRequirement, Stranger}
use Rattle.np_exposure.specs.steps.Types.{Aside}
use Rattle.np_exposure.specs.Choices.{Choices}
use Rattle.np_exposure.specs.steps.States.{IsWitness, can_be, is_decided, narrowed}
use Rattle.np_rules.specs.Prelude.{PodSide}

-- one row of the exposure of a hypothetical pod with labels among the choices
pub record IsLeaf (side : PodSide) (state : List Choices) (rows : List ExposureRow) : Type 0 where
  pub stranger : Stranger
  pub witness : IsWitness state stranger
  pub conns : Conns
  pub exposure : IsExposure side stranger conns
  pub row : rows ≡ record { requirements = []; conns = conns } ∷ []

-- the rows at a requirement, by whether it can be met and can be missed
abbrev pub AreJoinedAt : SidedRequirement → Bool → Bool → (List ExposureRow → Type 0) → (List ExposureRow → Type 0) → List ExposureRow → Type 0
AreJoinedAt asked true true Met Unmet rows = (met : List ExposureRow) × (unmet : List ExposureRow) × Met met × Unmet unmet × IsJoined asked met unmet rows
AreJoinedAt asked true false Met Unmet rows = Met rows
AreJoinedAt asked false can_miss Met Unmet rows = Unmet rows

-- the rows of the requirements that are left
unfoldable pub AreWalked : PodSide → List SidedRequirement → List Choices → List ExposureRow → Type 0
AreWalked side [] state rows = IsLeaf side state rows
AreWalked side (asked ∷ left) state rows =
    AreJoinedAt asked (can_be true asked state) (can_be false asked state) (AreWalked side left (narrowed true asked state)) (AreWalked side left (narrowed false asked state)) rows

-- the requirements that are still to be asked: none where one choice is left at each key
abbrev pub still_asked : List SidedRequirement → List Choices → List SidedRequirement
still_asked left state = if is_decided state then [] else left

-- ---- one requirement of the walk

-- What the choices are behind a requirement. Where it can be only met, or only missed, they go on alone; else those of
-- the other case are put aside.
abbrev pub IsStepTo : SidedRequirement → List Choices → List Choices → Option Aside → Type 0
IsStepTo asked state next None =
    (wanted : Bool) × (can_be wanted asked state ≡ true) × (can_be (not wanted) asked state ≡ false) × (next ≡ narrowed wanted asked state)
IsStepTo asked state next (Some aside) =
    (can_be true asked state ≡ true) × (can_be false asked state ≡ true) × (aside.case.state.items ≡ narrowed aside.wanted asked state) × (next ≡ narrowed (not aside.wanted) asked state)

-- one case is put aside, and the other goes on
abbrev pub IsFork : List Choices → List Choices → List Choices → Option Aside → Type 0
IsFork met unmet next None = ⊥
IsFork met unmet next (Some aside) = (aside.case.state.items ≡ (if aside.wanted then met else unmet)) × (next ≡ (if aside.wanted then unmet else met))

-- ---- rows that wait for those of the other case

-- the rows of a requirement, where those of one case are known
abbrev pub IsJoinedBy : SidedRequirement → Bool → List ExposureRow → List ExposureRow → List ExposureRow → Type 0
IsJoinedBy asked true known others rows = IsJoined asked known others rows
IsJoinedBy asked false known others rows = IsJoined asked others known rows

-- the rows of the first requirement that waits, from those of the last
abbrev pub Fills : List Pending → List ExposureRow → List ExposureRow → Type 0
Fills [] rows made = made ≡ rows
Fills (pending ∷ others) rows made =
    (inner : List ExposureRow) × Fills others rows inner × IsJoinedBy pending.requirement.now pending.wanted pending.rows.items inner made
