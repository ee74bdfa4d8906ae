use Rattle.std.proofs.Common.{◌≡◌, ℕ, length, ◌+◌, ◌-◌}
use Rattle.np_unused.specs.Prelude.{flag_in}
use Rattle.np_unused.proofs.flags.make_rows.Given as goal

abbrev pub invariant-loop-alloc : goal.invariant-loop-alloc
invariant-loop-alloc l = (p n : ℕ) → flag_in l.rows.items p n ≡ flag_in l.initial.rows.items p n

abbrev pub decreases-loop-alloc : goal.decreases-loop-alloc
decreases-loop-alloc l = l.policy + 1 - length l.rows.items
