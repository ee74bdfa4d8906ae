use Rattle.std.proofs.Common.{ap}
use Rattle.std.specs.Option.{option_map}
use Rattle.np_exposure.proofs.SettledLemmas.{all-choices, no-choice}
use Rattle.np_exposure.specs.Prelude.{Choices}
use Rattle.np_labels.specs.Prelude.{op_allows}
use Rattle.np_exposure.proofs.choices.KeyChoices.meet.Goals as goal

pub returns-then-all_meet : goal.returns-then-all_meet
returns-then-all_meet c =
    all-choices (op_allows c.args.requirement.now.op c.args.requirement.now.values) (option_map (λ value. value.now))
    c.self.inside.found.items c.deref.result.now c.args.self.now.found c.deref.ensures.value
    (ap (λ (choices : Choices). choices.found) c.self.view_is)
    c.all_meet.result c.all_meet.ensures c.if-all_meet.true

pub returns-then-not-some_meets : goal.returns-then-not-some_meets
returns-then-not-some_meets c =
    no-choice (op_allows c.args.requirement.now.op c.args.requirement.now.values) (option_map (λ value. value.now))
    c.self.inside.found.items c.deref-2.result.now c.args.self.now.found c.deref-2.ensures.value
    (ap (λ (choices : Choices). choices.found) c.self.view_is)
    c.some_meets.result c.some_meets.ensures c.if-not-some_meets.true
