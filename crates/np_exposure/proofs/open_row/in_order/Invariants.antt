use Rattle.std.proofs.Common.{◌≡◌, ◌++◌, reverse, vec_len}
use Rattle.np_exposure.proofs.open_row.in_order.Given as goal

abbrev pub invariant-loop-lent : goal.invariant-loop-lent
invariant-loop-lent l = l.requirements ++ reverse l.backwards.items ≡ reverse l.initial.backwards.items

abbrev pub decreases-loop-lent : goal.decreases-loop-lent
decreases-loop-lent l = vec_len l.backwards
