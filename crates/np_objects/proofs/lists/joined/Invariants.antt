use Rattle.std.proofs.Common.{◌≡◌}
use Rattle.std.specs.List.{flat_map}
use Rattle.np_objects.proofs.lists.joined.Given as goal

-- the items so far are those of the lists so far
abbrev pub invariant-loop-items : goal.invariant-loop-items
invariant-loop-items g l = l.all.items ≡ flat_map (λ items. items) l.yielded
