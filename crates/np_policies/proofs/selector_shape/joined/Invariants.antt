use Rattle.std.proofs.Common.{◌≡◌, ◌++◌}
use Rattle.np_policies.proofs.selector_shape.joined.Given as goal

abbrev pub invariant-loop-requirement : goal.invariant-loop-requirement
invariant-loop-requirement l = l.requirements ≡ l.fn.requirements ++ l.yielded
