use Rattle.np_statements.proofs.OneStatement.{text_reads}
use Rattle.np_statements.proofs.laws.text_of_a_statement_reads_again.Goals as goal

pub returns : goal.returns
returns c = text_reads
