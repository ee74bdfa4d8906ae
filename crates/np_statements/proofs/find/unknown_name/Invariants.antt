use Rattle.np_statements.proofs.FoundLemmas.{AreFoundTo}
use Rattle.np_statements.proofs.find.unknown_name.Given as goal

-- the lines so far ask something
abbrev pub invariant-loop-line : goal.invariant-loop-line
invariant-loop-line l = AreFoundTo l.folded l.statements l.line-index
