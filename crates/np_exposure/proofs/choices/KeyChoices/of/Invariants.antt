use Rattle.std.proofs.Common.{◌≡◌, Some, map, take}
use Rattle.std.specs.Option.{option_map}
use Rattle.np_exposure.proofs.choices.KeyChoices.of.Given as goal

abbrev pub invariant-loop-value : goal.invariant-loop-value
invariant-loop-value l = map (option_map (λ value. value.now)) l.found.items ≡ map Some (take l.value-index l.value-items)
