use Rattle.std.proofs.Common.{Some, None}
use Rattle.np_statements.proofs.SideLemmas.{found_first}
use Rattle.np_statements.proofs.grammar.behind_first.Goals as goal

pub returns-in-Some : goal.returns-in-Some
returns-in-Some c = found_first c.args.mark.now c.args.text.now (Some (c.in-Some.field-0-0, c.in-Some.behind)) c.in-Some.ensures.cases

pub returns-in-None : goal.returns-in-None
returns-in-None c = found_first c.args.mark.now c.args.text.now None c.in-None.ensures.cases
