-- What a statement file says, line by line.
use Rattle.std.specs.Prelude.{ℕ, ◌≡◌, ◌≢◌, ◌<◌, List, [], All, AllPairs, Contains}
use Rattle.std.specs.Str.{IsUtf8}
use Rattle.np_statements.specs.Prelude.{IsLineOf, IsStatementText}
use Rattle.np_command_check.specs.Types.{StatementLine, StatementText}

-- the text, in UTF-8, is that of the statement
abbrev pub IsTextOf : List ℕ → StatementText → Type 0
IsTextOf text statement = IsUtf8 text × IsStatementText text statement

-- the line of that number in the file is the text of the statement
abbrev pub StandsInFile : List ℕ → StatementLine → Type 0
StandsInFile bytes line = (text : List ℕ) × IsLineOf bytes line.line text × IsTextOf text line.statement

-- These are the statements of a file, each at the number of its line, in ascending order: one of each line but the empty ones.
pub record AreLinesOf (bytes : List ℕ) (lines : List StatementLine) : Type 0 where
  pub each : All (StandsInFile bytes) lines
  pub every : (number : ℕ) (text : List ℕ) → IsLineOf bytes number text → text ≢ [] → (line : StatementLine) × Contains lines line × (line.line ≡ number)
  pub order : AllPairs (λ one other. one.line < other.line) lines

-- The line of a number is not empty and no statement, and every line before it is empty or a statement.
pub record IsFirstBad (bytes : List ℕ) (number : ℕ) : Type 0 where
  pub text : List ℕ
  pub line : IsLineOf bytes number text
  pub filled : text ≢ []
  pub bad : (statement : StatementText) → IsTextOf text statement → ⊥
  pub first : (earlier : ℕ) (other : List ℕ) → IsLineOf bytes earlier other → earlier < number → other ≢ [] → (statement : StatementText) × IsTextOf other statement
