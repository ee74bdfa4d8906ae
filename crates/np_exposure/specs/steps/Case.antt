-- What is left on the way down the walk.
use Rattle.std.specs.Prelude.{◌≡◌, ℕ, List}
use Rattle.np_exposure.specs.Types.{PortSpot, Stranger}
use Rattle.np_exposure.specs.steps.Types.{Case, OpenRules}
use Rattle.np_exposure.specs.steps.Settled.{permits}
use Rattle.np_exposure.specs.steps.States.{IsWitness}

-- the rules that are left permit each hypothetical pod with labels among the choices what these rules do
abbrev pub PermitSame : List ℕ → OpenRules → Case → Type 0
PermitSame namespace rules case = (s : Stranger) → IsWitness case.state.items s → (spot : PortSpot) → permits namespace case.net s spot ≡ permits namespace rules s spot
