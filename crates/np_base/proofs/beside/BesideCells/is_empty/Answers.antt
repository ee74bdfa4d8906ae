use Rattle.np_base.proofs.BesideLemmas.{empty_by_second, filled_by_first}
use Rattle.np_base.proofs.beside.BesideCells.is_empty.Goals as goal

pub returns-then-first-clause-answer : goal.returns-then-first-clause-answer
returns-then-first-clause-answer g c = empty_by_second _ _ _ c.if-first.ensures.answer c.is_empty-second.ensures.answer

pub returns-else-first-clause-answer : goal.returns-else-first-clause-answer
returns-else-first-clause-answer g c = filled_by_first _ _ _ c.if-first.false c.if-first.ensures.answer
