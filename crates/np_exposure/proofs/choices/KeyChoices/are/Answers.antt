use Rattle.std.proofs.Common.{[], ap, unwrap_or}
use Rattle.std.specs.Option.{option_map}
use Rattle.np_exposure.proofs.SettledLemmas.{all-choices, no-choice}
use Rattle.np_exposure.specs.Prelude.{Choices}
use Rattle.std.specs.Str.{bytes_eq}
use Rattle.np_exposure.proofs.choices.KeyChoices.are.Goals as goal

pub returns-then-all_are : goal.returns-then-all_are
returns-then-all_are c =
    all-choices (λ found. bytes_eq c.args.value.now (unwrap_or found [])) (option_map (λ value. value.now))
    c.self.inside.found.items c.deref.result.now c.args.self.now.found c.deref.ensures.value
    (ap (λ (choices : Choices). choices.found) c.self.view_is)
    c.all_are.result c.all_are.ensures c.if-all_are.true

pub returns-then-not-some_is : goal.returns-then-not-some_is
returns-then-not-some_is c =
    no-choice (λ found. bytes_eq c.args.value.now (unwrap_or found [])) (option_map (λ value. value.now))
    c.self.inside.found.items c.deref-2.result.now c.args.self.now.found c.deref-2.ensures.value
    (ap (λ (choices : Choices). choices.found) c.self.view_is)
    c.some_is.result c.some_is.ensures c.if-not-some_is.true
