use Rattle.np_statements.proofs.FoundLemmas.{told-line}
use Rattle.np_statements.proofs.find.unknown_in_line.Goals as goal

pub returns : goal.returns
returns c =
    rw c.or.ensures (told-line c.args.folded.now c.args.line.now c.unknown_end-source.result c.unknown_end.result c.unknown_end-source.ensures c.unknown_end.ensures)
