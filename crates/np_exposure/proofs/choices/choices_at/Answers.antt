use Rattle.std.proofs.Common.{sym, ◌∙◌}
use Rattle.np_exposure.proofs.SettledLemmas.{witness-at}
use Rattle.np_exposure.proofs.choices.choices_at.Goals as goal

pub returns-then-is_at : goal.returns-then-is_at
returns-then-is_at c =
    witness-at c.args.state.now c.loop-choices.choices-index c.choices-item.result c.args.side c.args.key.now c.loop-choices-test.true c.choices-item.is (sym c.is_at.ensures ∙ c.if-is_at.true)
