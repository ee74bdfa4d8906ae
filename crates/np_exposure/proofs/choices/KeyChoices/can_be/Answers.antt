use Rattle.std.proofs.Common.{ap, map, None, ◌∙◌}
use Rattle.std.specs.Option.{option_map}
use Rattle.np_exposure.proofs.StateLemmas.{any-mapped, suits-by}
use Rattle.np_exposure.specs.Prelude.{Choices, looks_at, suits}
use Rattle.np_exposure.proofs.choices.KeyChoices.can_be.Goals as goal

pub returns-then-suits : goal.returns-then-suits
returns-then-suits c =
    any-mapped (suits c.args.wanted c.args.requirement.now c.args.self.now) (option_map (λ value. value.now)) c.deref-choice-items.result.now c.args.self.now.found c.loop-choice.choice-index None
    (ap (map (option_map (λ value. value.now))) c.deref-choice-items.ensures.value ∙ ap (λ (choices : Choices). choices.found) c.self.view_is) c.loop-choice-test.true
    (suits-by c.args.wanted c.args.requirement.now c.args.self.now c.looks_at-looks.result _
    (c.looks_at-looks.ensures ∙ ap (λ (choices : Choices). looks_at choices.side choices.key c.args.requirement.now) c.self.view_is) c.if-suits.ensures)
