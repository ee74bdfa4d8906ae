-- What a report of `check` says of the bytes of its statement file and of its inputs, and why there is none.
use Rattle.std.specs.Prelude.{◌≡◌, ℕ, List, ◌++◌, All, codes, decimal, drop, length, Ok}
use Rattle.np_command.specs.Prelude.{SinkTrace, TookWhole, lists_of}
use Rattle.np_command_check.specs.Types.{BadStatement, Broken, EstateLists, Fault, StatementLine, UnknownEnd}
use Rattle.np_command_check.specs.FileLines.{AreLinesOf, IsFirstBad}
use Rattle.np_command_check.specs.FirstBroken.{IsFirstBrokenLine}
use Rattle.np_command_check.specs.KnownEnds.{IsFirstUnknown, IsKnown, forms_of}
use Rattle.np_command_check.specs.Report.{statement_bytes}
use Rattle.np_statements.specs.Prelude.{LineHolds, broken_text}

-- The bytes behind those of the statement file are those of an estate, the file has these statements, and all
-- workloads that they name are there.
pub record IsAskedOf (texts : List (List ℕ)) (lists : EstateLists) (lines : List StatementLine) : Type 0 where
  pub read : lists_of (drop 1 texts) ≡ Ok lists
  pub lines_are : AreLinesOf (statement_bytes texts) lines
  pub known : All (IsKnown lists) (forms_of lines)

-- The sink took how many statements there are, and each of them holds: for every two different pods that its ends name,
-- in each family of the list, and for every pod and every address that they name.
pub record ChecksAll (out : SinkTrace) (texts : List (List ℕ)) : Type 0 where
  pub lists : EstateLists
  pub lines : List StatementLine
  pub asks : IsAskedOf texts lists lines
  pub printed : TookWhole out (codes "holds: " ++ decimal (length lines) ++ codes "\n")
  pub hold : All (LineHolds lists) lines

-- The sink took the number of a line and a packet: all statements of earlier lines hold, that of the line does not, and
-- of all packets that break it this is the first.
pub record FindsBroken (out : SinkTrace) (texts : List (List ℕ)) : Type 0 where
  pub lists : EstateLists
  pub lines : List StatementLine
  pub broken : Broken
  pub asks : IsAskedOf texts lists lines
  pub printed : TookWhole out (broken_text lists broken ++ codes "\n")
  pub first : IsFirstBrokenLine lists lines broken

-- Why the statements of a file are not checked: the first line that is none, or else the first name that no workload has.
abbrev pub RefusesCheck : List ℕ → EstateLists → Fault → Type 0
RefusesCheck bytes lists (BadStatement number) = IsFirstBad bytes number
RefusesCheck bytes lists (UnknownEnd name) = (lines : List StatementLine) × AreLinesOf bytes lines × IsFirstUnknown lists lines name
RefusesCheck bytes lists other = ⊥
