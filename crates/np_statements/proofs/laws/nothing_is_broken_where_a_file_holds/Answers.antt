use Rattle.np_statements.proofs.BrokenLemmas.{nothing-broken}
use Rattle.np_statements.proofs.LineLemmas.{statements-well}
use Rattle.np_statements.proofs.laws.nothing_is_broken_where_a_file_holds.Goals as goal

pub returns : goal.returns
returns c = λ lists bytes lines asked lawful reads found. nothing-broken lists lines asked lawful (statements-well bytes lines reads) found
