use Rattle.np_statements.proofs.BrokenLemmas.{first-is}
use Rattle.np_statements.proofs.LineLemmas.{statements-well}
use Rattle.np_statements.specs.Prelude.{first_broken}
use Rattle.np_statements.proofs.laws.the_first_broken_line_is_found.Goals as goal

pub returns : goal.returns
unfolding first_broken
returns c = λ lists bytes lines asked broken lawful reads found is. first-is lists lines asked broken lawful (statements-well bytes lines reads) found is
