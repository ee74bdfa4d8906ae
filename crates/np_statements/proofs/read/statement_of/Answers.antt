use Rattle.np_statements.proofs.LineLemmas.{no_text, of-read, of-refused}
use Rattle.np_statements.proofs.read.statement_of.Goals as goal

pub returns-in-Ok-clause-read : goal.returns-in-Ok-clause-read
returns-in-Ok-clause-read c = of-read c.args.line.now c.in-Ok.text.now c.read_statement.result c.in-Ok.ensures.cases c.read_statement.ensures.read

pub returns-in-Ok-clause-bad : goal.returns-in-Ok-clause-bad
returns-in-Ok-clause-bad c = λ bad. of-refused c.args.line.now c.in-Ok.text.now c.in-Ok.ensures.cases (c.read_statement.ensures.bad bad)

pub returns-in-Err-clause-bad : goal.returns-in-Err-clause-bad
returns-in-Err-clause-bad c = λ bad. no_text c.args.line.now c.in-Err.ensures.cases.0
