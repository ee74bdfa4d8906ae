-- `check`: whether the statements of a file hold.
use Rattle.std.specs.Prelude.{ℕ, List, ◌++◌, Bool, false, codes, decimal, is_none, length, Option, Some, None, Result, Ok, Err, [], ◌∷◌}
use Rattle.np_command_check.specs.Types.{AskedLine, BadStatement, Broken, EstateLists, Fault, StatementLine, UnknownEnd}
use Rattle.np_statements.specs.Prelude.{broken_text, ends_found, first_broken, statements_of}

-- ---- what is asked

abbrev pub line_fault : {X : Type 0} → Result X ℕ → Result X Fault
line_fault (Ok x) = Ok x
line_fault (Err line) = Err (BadStatement line)

abbrev pub name_fault : {X : Type 0} → Result X (List ℕ) → Result X Fault
name_fault (Ok x) = Ok x
name_fault (Err name) = Err (UnknownEnd name)

abbrev pub asked_lines : EstateLists → Result (List StatementLine) Fault → Result (List AskedLine) Fault
asked_lines lists (Ok statements) = name_fault (ends_found lists statements)
asked_lines lists (Err fault) = Err fault

-- What the lines of a file ask of an estate, or the fault that stands first: a line that is no statement before a name
-- that is unknown.
unfoldable pub asked_in : List ℕ → EstateLists → Result (List AskedLine) Fault
asked_in bytes lists = asked_lines lists (line_fault (statements_of bytes))

-- ---- what is found

-- the line that so many statements hold, or that of how the first one is broken that does not
abbrev pub finding : EstateLists → ℕ → Option Broken → List ℕ
finding lists count None = codes "holds: " ++ decimal count ++ codes "\n"
finding lists count (Some broken) = broken_text lists broken ++ codes "\n"

abbrev pub finding_of : EstateLists → Result (List AskedLine) Fault → Result (List ℕ) Fault
finding_of lists (Ok asked) = Ok (finding lists (length asked) (first_broken lists asked))
finding_of lists (Err fault) = Err fault

-- What is found of the statements of a file, or the fault that stands first.
unfoldable pub check_reply : List ℕ → EstateLists → Result (List ℕ) Fault
check_reply bytes lists = finding_of lists (asked_in bytes lists)

abbrev pub hold_in : EstateLists → Result (List AskedLine) Fault → Bool
hold_in lists (Ok asked) = is_none (first_broken lists asked)
hold_in lists (Err fault) = false

-- whether all statements of a file hold
unfoldable pub all_hold : List ℕ → EstateLists → Bool
all_hold bytes lists = hold_in lists (asked_in bytes lists)

-- the bytes of a statement file, which stand first
abbrev pub statement_bytes : List (List ℕ) → List ℕ
statement_bytes [] = []
statement_bytes (text ∷ texts) = text
