-- Statements with their ends found.
use Rattle.std.specs.Prelude.{ℕ, List, [], ◌∷◌, Result, Ok}
use Rattle.np_statements.specs.Types.{AskedLine, EstateLists, StatementLine}
use Rattle.np_statements.specs.Ends.{ends_of}
use Rattle.np_statements.specs.Steps.{◌>>=◌}

-- what a line asks; the ends of its source are found first
unfoldable pub asked_line : EstateLists → StatementLine → Result AskedLine (List ℕ)
asked_line lists line = do
  source ← ends_of lists line.statement.source
  destination ← ends_of lists line.statement.destination
  Ok (record { line = line.line; question = record { wanted = line.statement.wanted; source = source; destination = destination; conns = line.statement.conns } })

-- what lines ask, or the first name that no workload has
abbrev pub ends_found : EstateLists → List StatementLine → Result (List AskedLine) (List ℕ)
ends_found lists [] = Ok []
ends_found lists (line ∷ lines) = do
  first ← asked_line lists line
  others ← ends_found lists lines
  Ok (first ∷ others)
