use Rattle.np_statements.proofs.OneStatement.{one_statement}
use Rattle.np_statements.proofs.laws.one_statement_of_a_line.Goals as goal

pub returns : goal.returns
returns c = one_statement
