use Rattle.std.proofs.Common.{sym, ◌∙◌, lit<}
use Rattle.std.proofs.lemmas.Bool.{true≢false}
use Rattle.std.proofs.lemmas.Str.Pattern.{contains_char}
use Rattle.np_statements.proofs.TextLemmas.{slash_at}
use Rattle.np_statements.proofs.grammar.is_work_text.Goals as goal

pub returns-then-not-contains : goal.returns-then-not-contains
returns-then-not-contains c = λ is.
    let (k, within, slash) = slash_at c.args.name.now is.slash in
    true≢false (sym ((contains_char 47 c.args.name.now c.contains.result c.contains.ensures.cases (lit< tt)).1 k within slash) ∙ c.if-not-contains.true)
