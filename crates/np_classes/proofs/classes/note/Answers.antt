use Rattle.std.proofs.Common.{length, ap, sym, ◌∙◌}
use Rattle.std.proofs.lemmas.Result.{on_ok_weaker}
use Rattle.np_classes.proofs.NoteSteps.{HoldsClasses-earlier, HoldsClasses-new}
use Rattle.np_classes.proofs.classes.note.Goals as goal

pub returns-in-Some : goal.returns-in-Some
returns-in-Some g c =
    on_ok_weaker c.push.result (λ put earlier held. HoldsClasses-earlier g.K.Ord.cmp g.met.K.Ord.total earlier c.args.key c.args.known.now c.args.firsts.now c.args.numbers.now c.push.new.self
    c.in-Some.number
    (sym c.get.ensures.value ∙ sym c.copied.ensures ∙ c.in-Some.is) put held) c.push.ensures.ok

pub returns : goal.returns
returns g c earlier held =
    HoldsClasses-new g.K.Ord.cmp g.met.K.Ord.total earlier c.args.key c.args.known.now c.insert.new.self c.args.firsts.now c.push-2.new.self c.args.numbers.now c.push-3.new.self
    (length c.items.result.now) (length c.items-2.result.now)
    (ap length c.items.ensures) (ap length c.items-2.ensures) (sym c.get.ensures.value ∙ sym c.copied.ensures ∙ c.in_default.is) c.in_ok-push.ensures.ok c.in_ok-push-2.ensures.ok
    c.in_ok-insert.ensures.updates.0 held
