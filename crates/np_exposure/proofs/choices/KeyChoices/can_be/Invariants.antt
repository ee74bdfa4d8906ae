use Rattle.std.proofs.Common.{◌≡◌, false, map, take}
use Rattle.std.specs.List.{list_any}
use Rattle.std.specs.Option.{option_map}
use Rattle.np_exposure.specs.Prelude.{suits}
use Rattle.np_exposure.proofs.choices.KeyChoices.can_be.Given as goal

-- none of those so far is as wanted
abbrev pub invariant-loop-choice : goal.invariant-loop-choice
invariant-loop-choice l = list_any (suits l.wanted l.requirement l.self) (map (option_map (λ value. value.now)) (take l.choice-index l.choice-items)) ≡ false
