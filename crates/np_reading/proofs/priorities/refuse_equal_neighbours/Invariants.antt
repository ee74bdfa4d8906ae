use Rattle.std.proofs.Common.{◌≡◌, ◌-◌, drop}
use Rattle.np_reading.specs.Prelude.{first_equal}
use Rattle.np_reading.proofs.priorities.refuse_equal_neighbours.Given as goal

-- the first equal neighbours are among those that are left
abbrev pub invariant-loop-place : goal.invariant-loop-place
invariant-loop-place l = first_equal (drop (l.place - 1) l.ranks) ≡ first_equal l.ranks
