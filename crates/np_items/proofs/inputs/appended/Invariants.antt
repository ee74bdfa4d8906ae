use Rattle.std.proofs.Common.{◌≡◌, ◌++◌}
use Rattle.np_items.proofs.inputs.appended.Given as goal

-- the further values so far stand behind the first ones
abbrev pub invariant-loop-value : goal.invariant-loop-value
invariant-loop-value l = l.values ≡ l.initial.values ++ l.yielded
