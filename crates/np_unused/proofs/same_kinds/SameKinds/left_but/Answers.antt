use Rattle.std.proofs.Common.{sym}
use Rattle.std.proofs.lemmas.Bool.{OnTrue_at}
use Rattle.np_unused.proofs.same_kinds.SameKinds.left_but.Goals as goal

pub returns-then-is_same_before : goal.returns-then-is_same_before
returns-then-is_same_before c =
    (c.args.first, c.in-Some.second, λ same. c.if-second-first.true (sym same), c.requires.first, OnTrue_at c.if-is_same_before.true c.is_same_before.ensures)
