use Rattle.std.proofs.Common.{◌≡◌, ◌+◌, map, drop}
use Rattle.np_statements.proofs.StepLemmas.{after}
use Rattle.np_statements.specs.Prelude.{lines_read, statements_of}
use Rattle.np_statements.proofs.read.read_statements.Given as goal

-- the statements so far, and then those of the lines left, are those of the file
abbrev pub invariant-loop-place : goal.invariant-loop-place
invariant-loop-place l = statements_of l.bytes ≡ after l.statements (lines_read (l.place + 1) (map (λ line. line.now) (drop l.place l.line-items)))
