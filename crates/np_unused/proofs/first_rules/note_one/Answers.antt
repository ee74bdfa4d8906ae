use Rattle.std.proofs.lemmas.Result.{IfOk-weaker}
use Rattle.np_unused.proofs.NoteLemmas.{one_missed, one_noted}
use Rattle.np_unused.proofs.first_rules.note_one.Goals as goal

pub returns-then-is_empty : goal.returns-then-is_empty
returns-then-is_empty g c =
    one_missed (g.S.Cells.has c.args.left.now) (g.S.Cells.has c.args.one.now.set.now)
    (g.S.Cells.has c.in_ok-meet.field-0) c.args.one.now.rule c.in_ok-meet.ensures.members c.args.flags.now c.if-is_empty.ensures.answer

pub returns : goal.returns
returns g c =
    IfOk-weaker c.set.result _ _
    (λ _ sets. one_noted (g.S.Cells.has c.args.left.now) (g.S.Cells.has c.args.one.now.set.now)
    (g.S.Cells.has c.in_ok-meet.field-0) c.args.one.now.rule c.in_ok-meet.ensures.members c.args.flags.now c.set.new.self c.if-is_empty.ensures.answer sets)
    c.set.ensures
