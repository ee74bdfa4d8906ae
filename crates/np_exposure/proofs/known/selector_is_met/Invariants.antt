use Rattle.std.proofs.Common.{take}
use Rattle.std.specs.List.{list_all}
use Rattle.np_exposure.specs.Prelude.{IsSettled, labels_at}
use Rattle.np_labels.specs.Prelude.{meets_requirement}
use Rattle.np_exposure.proofs.known.selector_is_met.Given as goal

-- whether the labels meet the requirements so far
abbrev pub invariant-loop-requirement : goal.invariant-loop-requirement
invariant-loop-requirement l = IsSettled l.state (λ s. list_all (λ requirement. meets_requirement requirement (labels_at l.side s)) (take l.requirement-index l.requirement-items)) l.answer
