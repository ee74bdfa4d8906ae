use Rattle.std.proofs.Common.{◌≡◌, filter, map, take}
use Rattle.std.specs.Option.{option_map}
use Rattle.np_exposure.specs.Prelude.{suits}
use Rattle.np_exposure.proofs.choices.KeyChoices.narrowed.Given as goal

abbrev pub invariant-loop-choice : goal.invariant-loop-choice
invariant-loop-choice l =
    map (option_map (λ value. value.now)) l.found.items
    ≡ filter (suits l.wanted l.requirement l.self) (map (option_map (λ value. value.now)) (take l.choice-index l.choice-items))
