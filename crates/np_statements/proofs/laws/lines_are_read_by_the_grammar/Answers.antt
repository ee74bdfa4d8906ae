use Rattle.np_statements.proofs.GrammarLemmas.{read-is, read-text}
use Rattle.np_statements.proofs.laws.lines_are_read_by_the_grammar.Goals as goal

pub returns : goal.returns
returns c = λ line statement. (read-is line statement, read-text line statement)
