use Rattle.std.proofs.Common.{◌≡◌, length}
use Rattle.np_explain.specs.Prelude.{same_parts}
use Rattle.np_explain.proofs.same.same_parts.Given as goal

-- the rests of the lists are equal where the lists are
abbrev pub invariant-loop-first : goal.invariant-loop-first
invariant-loop-first l =
    same_parts l.left l.right ≡ same_parts l.fn.these l.fn.those

abbrev pub decreases-loop-first : goal.decreases-loop-first
decreases-loop-first l = length l.left
