use Rattle.np_statements.proofs.SideLemmas.{behind_is}
use Rattle.np_statements.proofs.grammar.behind_mark.Goals as goal

pub returns : goal.returns
returns c = λ end rest before spelled.
    behind_is c.args.mark.now c.args.tail.now c.args.text.now c.without-named.result.now c.in_ok-behind.behind.now c.without.result.now end rest c.requires c.without-named.ensures
    c.in_ok-behind.ensures c.without.ensures before spelled
