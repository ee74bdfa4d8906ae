use Rattle.std.proofs.lemmas.Str.Pattern.{contains_text}
use Rattle.np_statements.proofs.TextLemmas.{lacks_by}
use Rattle.np_statements.proofs.grammar.lacks.Goals as goal

pub returns : goal.returns
returns c = lacks_by c.contains.result c.args.text.now c.args.part.now (contains_text c.contains.result c.args.part.now c.args.text.now c.contains.ensures.cases)
