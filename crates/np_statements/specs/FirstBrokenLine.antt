-- The first broken line of a file, by what it is.
use Rattle.std.specs.Prelude.{◌≡◌, List, ◌∷◌, ◌++◌, false, All, Ok}
use Rattle.np_check.specs.Prelude.{IsFirstBroken, complies}
use Rattle.np_statements.specs.Types.{AskedLine, Broken, EstateLists, StatementLine}
use Rattle.np_statements.specs.BrokenLines.{is_allowed_counterexample}
use Rattle.np_statements.specs.FoundEnds.{asked_line}
use Rattle.np_statements.specs.Holding.{LineHolds}

-- The lines before it hold, and it does not: its packet is the first that breaks it, and the verdict of that is not the wanted one.
pub record IsFirstBrokenLine (lists : EstateLists) (lines : List StatementLine) (broken : Broken) : Type 0 where
  pub before : List StatementLine
  pub line : StatementLine
  pub behind : List StatementLine
  pub place : lines ≡ before ++ line ∷ behind
  pub number : broken.line ≡ line.line
  pub earlier_hold : All (LineHolds lists) before
  pub fails : LineHolds lists line → ⊥
  pub asked : AskedLine
  pub is_asked : asked_line lists line ≡ Ok asked
  pub first : IsFirstBroken lists asked.question broken.packet
  pub verdict : broken.allowed ≡ is_allowed_counterexample lists broken.packet
  pub unwanted : complies line.statement.wanted broken.allowed ≡ false
