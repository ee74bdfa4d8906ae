use Rattle.std.proofs.Common.{◌≡◌, length}
use Rattle.np_statements.proofs.AmongLemmas.{IsLeft}
use Rattle.np_statements.proofs.checking.first_broken.Given as goal

-- the first broken line of those left is the first of all
abbrev pub invariant-loop-line : goal.invariant-loop-line
invariant-loop-line l = record {
  left : IsLeft l.folded l.fn.statements (length l.yielded);
  same : l.checker ≡ l.folded;
}
