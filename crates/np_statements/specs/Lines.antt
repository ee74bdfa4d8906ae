-- The statements of a file.
use Rattle.std.specs.Prelude.{ℕ, ◌+◌, ◌==◌, List, [], ◌∷◌, ◌++◌, Option, Some, None, option_to_list, Result, Ok, Err, if◌then◌else◌}
use Rattle.std.specs.List.{slice_split}
use Rattle.std.specs.Str.{is_utf8}
use Rattle.np_statements.specs.Types.{StatementLine, StatementText}
use Rattle.np_statements.specs.ReadStatement.{statement_read}
use Rattle.np_statements.specs.Steps.{◌>>=◌}

-- the lines of a file, cut at line feeds (10)
abbrev pub lines_of : List ℕ → List (List ℕ)
lines_of bytes = slice_split (λ byte. byte == 10) bytes

-- the statement of a line, which is a text in UTF-8
unfoldable pub statement_of : List ℕ → Option StatementText
statement_of line = if is_utf8 line then statement_read line else None

-- a statement at the line of a number, or the number where there is none
abbrev pub at_line : ℕ → Option StatementText → Result (Option StatementLine) ℕ
at_line number None = Err number
at_line number (Some statement) = Ok (Some (record { line = number; statement = statement }))

-- what the line of a number gives: nothing where it is empty
abbrev pub line_read : ℕ → List ℕ → Result (Option StatementLine) ℕ
line_read number [] = Ok None
line_read number (byte ∷ line) = at_line number (statement_of (byte ∷ line))

-- what lines give that are numbered from one number on, or the number of the first that is no statement
abbrev pub lines_read : ℕ → List (List ℕ) → Result (List StatementLine) ℕ
lines_read number [] = Ok []
lines_read number (line ∷ lines) = do
  first ← line_read number line
  others ← lines_read (number + 1) lines
  Ok (option_to_list first ++ others)

-- the statements of a file, whose lines are numbered from 1
unfoldable pub statements_of : List ℕ → Result (List StatementLine) ℕ
statements_of bytes = lines_read 1 (lines_of bytes)
