use Rattle.std.proofs.Common.{rules}
use Rattle.np_conns.proofs.TextLemmas.{text_of_runs-by_parts}
use Rattle.np_conns.proofs.print.text_of_runs.Goals as goal

pub returns : goal.returns
returns c = search (rules, text_of_runs-by_parts)
