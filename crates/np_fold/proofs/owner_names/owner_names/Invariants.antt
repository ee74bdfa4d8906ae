use Rattle.std.proofs.Common.{◌≡◌, map, take}
use Rattle.np_fold.specs.Workloads as spec
use Rattle.np_fold.proofs.owner_names.owner_names.Given as goal

-- the names so far are those of the pods at the places so far
abbrev pub invariant-loop-first : goal.invariant-loop-first
invariant-loop-first l = l.names ≡ map (spec.owner_name_at l.estate) (take l.first-index l.firsts)
