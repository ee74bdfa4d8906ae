use Rattle.std.proofs.Common.{◌≡◌, map, take}
use Rattle.np_exposure.specs.Prelude.{choices_of}
use Rattle.np_exposure.proofs.choices.all_choices.Given as goal

abbrev pub invariant-loop-label : goal.invariant-loop-label
invariant-loop-label l = l.state.items ≡ map choices_of (take l.label-index l.labels)
