use Rattle.np_statements.proofs.BrokenLemmas.{asks-says}
use Rattle.np_statements.proofs.laws.lines_ask_what_their_statements_say.Goals as goal

pub returns : goal.returns
returns c = asks-says
