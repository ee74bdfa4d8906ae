use Rattle.std.proofs.Common.{List, vec_len}
use Rattle.np_exposure.specs.Prelude.{ExposureRow, Fills}
use Rattle.np_exposure.proofs.pending.all_joined.Given as goal

-- what those that wait make of the rows, all make of the last
abbrev pub invariant-loop-case : goal.invariant-loop-case
invariant-loop-case l = (made : List ExposureRow) → Fills l.pending.items l.rows.items made → Fills l.initial.pending.items l.initial.rows.items made

abbrev pub decreases-loop-case : goal.decreases-loop-case
decreases-loop-case l = vec_len l.pending
