use Rattle.std.proofs.Common.{◌≡◌, take, map}
use Rattle.np_fold.specs.Prelude.{traits_of}
use Rattle.np_fold.proofs.traits.Traits.of_all.Given as goal

-- the traits so far are those of the pods so far
abbrev pub invariant-loop-pod : goal.invariant-loop-pod
invariant-loop-pod l = l.made ≡ map (traits_of l.keys l.cidrs) (take l.pod-index l.pods)
