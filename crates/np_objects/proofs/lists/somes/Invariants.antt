use Rattle.std.proofs.Common.{◌≡◌}
use Rattle.std.specs.List.{filter_map}
use Rattle.np_objects.proofs.lists.somes.Given as goal

-- the values so far are those of the items so far
abbrev pub invariant-loop-value : goal.invariant-loop-value
invariant-loop-value g l = l.values ≡ filter_map (λ value. value) l.yielded
