use Rattle.std.proofs.Common.{◌≡◌, map, take}
use Rattle.np_fold.specs.steps.Folded as spec
use Rattle.np_fold.proofs.numbers.numbers_by_name.Given as goal

-- the numbers so far are those of the classes so far
abbrev pub invariant-loop-class : goal.invariant-loop-class
invariant-loop-class l = l.numbers ≡ map (spec.number_among l.named) (take l.class-index l.classes)
