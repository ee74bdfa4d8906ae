use Rattle.std.proofs.Common.{◌≡◌, ◌-◌, ◌^◌, map, min, take}
use Rattle.np_exposure.specs.Prelude.{patterns_at, product}
use Rattle.np_exposure.proofs.weights.patterns_on.Given as goal

-- so many patterns do the keys so far have
abbrev pub invariant-loop-key : goal.invariant-loop-key
invariant-loop-key l = l.patterns ≡ min (product (map (patterns_at l.side l.mentions) (take l.key-index l.key-items))) (2 ^ 64 - 1)
