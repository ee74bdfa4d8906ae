use Rattle.std.proofs.Common.{◌≡◌, map}
use Rattle.std.specs.List.{range_with_len}
use Rattle.np_owners.specs.MadePods as spec
use Rattle.np_owners.proofs.makers.made_pods.Given as goal

-- the items so far are judged
abbrev pub invariant-loop-place : goal.invariant-loop-place
invariant-loop-place l = l.made.items ≡ map (spec.makes_pod l.items) (range_with_len 0 l.place)
