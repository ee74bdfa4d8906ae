use Rattle.std.proofs.Common.{◌≡◌, map, take}
use Rattle.np_owners.specs.MadePods as spec
use Rattle.np_owners.proofs.makers.pod_marks.Given as goal

-- the marks are those of the items so far
abbrev pub invariant-loop-item : goal.invariant-loop-item
invariant-loop-item l = l.marks.items ≡ map spec.is_pod (take l.item-index l.items)
