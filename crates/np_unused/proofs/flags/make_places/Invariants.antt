use Rattle.std.proofs.Common.{◌≡◌, ℕ, length, ◌+◌, ◌-◌}
use Rattle.np_unused.specs.Prelude.{flag_of}
use Rattle.np_unused.proofs.flags.make_places.Given as goal

abbrev pub invariant-loop-row : goal.invariant-loop-row
invariant-loop-row l = (n : ℕ) → flag_of l.row.items n ≡ flag_of l.initial.row.items n

abbrev pub decreases-loop-row : goal.decreases-loop-row
decreases-loop-row l = l.place + 1 - length l.row.items
