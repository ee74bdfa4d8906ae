use Rattle.np_base.proofs.BesideLemmas.{same_by_second, apart_by_first}
use Rattle.np_base.proofs.beside.BesideCells.same.Goals as goal

pub returns-then-first-clause-answer : goal.returns-then-first-clause-answer
returns-then-first-clause-answer g c = same_by_second g.A.Cells.has g.B.Cells.has _ _ _ c.if-first.ensures.answer c.same-second.ensures.answer

pub returns-else-first-clause-answer : goal.returns-else-first-clause-answer
returns-else-first-clause-answer g c = apart_by_first g.A.Cells.has g.B.Cells.has _ _ _ c.if-first.false c.if-first.ensures.answer
