-- What a list of parts of one tier says of a spot.
use Rattle.std.specs.Prelude.{◌≡◌, Bool, true, false, not, Option, Some, None, is_some, List, find}
use Rattle.std.specs.Option.{option_map}
use Rattle.np_model.specs.Prelude.{action_says}
use Rattle.np_tiers.specs.Types.{Action, Allow, Deny, Run}

-- what a base part says, as an action
abbrev pub base_action : Bool → Action
base_action true = Allow
base_action false = Deny

-- what the first part that has the spot says, if one has it
abbrev pub first_action : {S P : Type 0} → (P → S) → (P → Action) → (S → Bool) → List P → Option Action
first_action set_of action_of at parts = option_map action_of (find (λ part. at (set_of part)) parts)

-- what the first part says, and without one the tiers below, which say `below`
abbrev pub first_allows : Option Action → Bool → Bool
first_allows None below = below
first_allows (Some action) below = action_says action below

-- The sets of the run are those of the parts whose first one that has a spot says `first` of it: the spots that are
-- allowed whatever is below, those that are denied whatever is below, and those that some part has.
pub record IsRun {S Spot : Type 0} (has : S → Spot → Bool) (first : Spot → Option Action) (run : Run S) : Type 0 where
  pub allowed : (spot : Spot) → has run.allowed spot ≡ first_allows (first spot) false
  pub denied : (spot : Spot) → has run.denied spot ≡ not (first_allows (first spot) true)
  pub met : (spot : Spot) → has run.met spot ≡ is_some (first spot)
