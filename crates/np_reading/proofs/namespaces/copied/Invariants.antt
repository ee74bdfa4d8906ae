use Rattle.std.proofs.Common.{◌≡◌, take}
use Rattle.np_reading.proofs.namespaces.copied.Given as goal

-- the copies so far are of the labels so far
abbrev pub invariant-loop-label : goal.invariant-loop-label
invariant-loop-label l = l.made ≡ take l.label-index l.labels
