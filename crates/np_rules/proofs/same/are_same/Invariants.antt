use Rattle.std.proofs.Common.{◌≡◌, ◌≤◌, length, take}
use Rattle.np_rules.proofs.same.are_same.Given as goal

-- those so far are equal
abbrev pub invariant-loop-place : goal.invariant-loop-place
invariant-loop-place g l = record {
  there : l.place ≤ length l.those;
  equal : take l.place l.these ≡ take l.place l.those;
}
