use Rattle.std.proofs.Common.{◌≡◌, ◌++◌, flat_map, take}
use Rattle.np_exposure.specs.Prelude.{first_label}
use Rattle.np_exposure.proofs.witness.with_choices.Given as goal

abbrev pub invariant-loop-choices : goal.invariant-loop-choices
invariant-loop-choices l = l.made ≡ l.fn.pairs ++ flat_map (first_label l.side) (take l.choices-index l.state)
