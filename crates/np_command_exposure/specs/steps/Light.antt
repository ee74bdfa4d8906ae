-- What is kept of sides that have few patterns: which they are, so that each side that is the same is known to have few, too.
use Rattle.std.specs.Prelude.{◌<◌, ◌≤◌, ℕ, length}
use Rattle.np_command_exposure.specs.Types.{Direction, EstateLists, LightSide}
use Rattle.np_exposure.specs.Prelude.{mentions, weight}
use Rattle.np_exposure.specs.declared.exposures.TheConstants.{MOST_PATTERNS}
use Rattle.np_rules.specs.Prelude.{side_of}

-- the side of a pod has no more patterns than are looked at
abbrev pub HasFew : EstateLists → ℕ → Direction → Type 0
HasFew lists pod direction = weight (mentions (side_of lists pod direction)) ≤ MOST_PATTERNS

-- the side is of a pod of the estate, and has few patterns
pub record IsLight (lists : EstateLists) (side : LightSide) : Type 0 where
  pub there : side.pod < length lists.pods
  pub few : HasFew lists side.pod side.direction
