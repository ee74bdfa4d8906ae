use Rattle.std.proofs.Common.{◌≡◌, map}
use Rattle.np_labels.specs.Prelude.{label_requirement}
use Rattle.np_labels.proofs.selector.Selector.of_labels.Given as goal

-- the requirements so far are those of the labels so far
abbrev pub invariant-loop-key : goal.invariant-loop-key
invariant-loop-key l = l.requirements ≡ map label_requirement l.yielded
