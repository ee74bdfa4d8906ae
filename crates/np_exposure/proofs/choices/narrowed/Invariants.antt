use Rattle.std.proofs.Common.{◌≡◌, map, take}
use Rattle.np_exposure.specs.Prelude.{narrowed_at}
use Rattle.np_exposure.proofs.choices.narrowed.Given as goal

abbrev pub invariant-loop-choices : goal.invariant-loop-choices
invariant-loop-choices l = l.made.items ≡ map (narrowed_at l.wanted l.requirement) (take l.choices-index l.state)
