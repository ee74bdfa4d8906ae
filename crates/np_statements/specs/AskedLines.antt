-- What is known of the statements of a file, as they are read and with their ends found.
use Rattle.std.specs.Prelude.{◌≡◌, ◌&&◌, true, false, All}
use Rattle.np_addr.specs.Prelude.{IsCidr}
use Rattle.np_check.specs.Prelude.{IsOneSided, is_ascending}
use Rattle.np_statements.specs.StatementGrammar.{is_address_form}
use Rattle.np_statements.specs.Types.{Addresses, AskedLine, Block, EndForm, EstateLists, Namespace, Pods, Question, StatementLine, Work}
use Rattle.np_kinds.specs.Prelude.{IsWorkload}

-- a block has no host bits
abbrev pub IsWellForm : EndForm → Type 0
IsWellForm Pods = Unit {0}
IsWellForm Addresses = Unit {0}
IsWellForm (Namespace name) = Unit {0}
IsWellForm (Work name) = Unit {0}
IsWellForm (Block cidr) = IsCidr cidr

-- so it is on both sides, and one of them has no addresses
pub record IsWellLine (line : StatementLine) : Type 0 where
  pub source : IsWellForm line.statement.source
  pub destination : IsWellForm line.statement.destination
  pub one_side : (is_address_form line.statement.source && is_address_form line.statement.destination) ≡ false

-- the numbers of both sides are those of workloads, and ascend, and one side has no addresses
pub record IsQuestion (lists : EstateLists) (question : Question) : Type 0 where
  pub sources : All (IsWorkload lists) question.source.works
  pub destinations : All (IsWorkload lists) question.destination.works
  pub sources_ascend : is_ascending question.source.works ≡ true
  pub destinations_ascend : is_ascending question.destination.works ≡ true
  pub one_side : IsOneSided question.source.block question.destination.block

abbrev pub IsAsked : EstateLists → AskedLine → Type 0
IsAsked lists asked = IsQuestion lists asked.question
