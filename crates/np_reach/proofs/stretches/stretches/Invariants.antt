use Rattle.std.proofs.Common.{◌≡◌, ◌≤◌, ◌-◌, flat_map, length, take}
use Rattle.std.specs.Prelude.{All}
use Rattle.np_reach.proofs.stretches.stretches.Given as goal
use Rattle.np_reach.specs.Prelude.{FollowOneAnother, IsStretch}

-- the stretches so far have the pods so far
abbrev pub invariant-loop-from : goal.invariant-loop-from
invariant-loop-from l = record {
  pods : flat_map (λ stretch. stretch.pods.now) l.made.items ≡ take l.from l.pods;
  alike : All IsStretch l.made.items;
  from : FollowOneAnother l.made.items;
  within : l.from ≤ length l.pods;
}

abbrev pub decreases-loop-from : goal.decreases-loop-from
decreases-loop-from l = length l.pods - l.from
