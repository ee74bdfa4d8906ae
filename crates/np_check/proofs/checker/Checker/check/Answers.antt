use Rattle.std.proofs.Common.{◌≡◌, ℕ, Option, List, sym, ap, ◌∙◌}
use Rattle.std.specs.Option.{option_or}
use Rattle.std.proofs.lemmas.Result.{IfOk-weaker}
use Rattle.np_check.specs.Prelude.{Address, At, Counterexample, EstateLists, Work, addresses_of, counterexample_between, counterexample_from, counterexample_of, first_given}
use Rattle.np_check.proofs.PairLemmas.{none_or, some_or}
use Rattle.np_check.proofs.WholeLemmas.{of-question}
use Rattle.np_check.proofs.checker.Checker.check.Goals as goal

pub returns-then-is_some-clause-counterexample : goal.returns-then-is_some-clause-counterexample
returns-then-is_some-clause-counterexample c =
    let question = c.args.statement.now.question in
    let rest = first_given (λ (address : Address). first_given (λ (work : ℕ). counterexample_between c.args.self.now question.wanted question.conns (At address)
    (Work work)) question.destination.works) (addresses_of question.source.block) in
    let works = (rw c.expect.ensures at c.in_ok-found.ensures.counterexample) ∙ ap (first_given (λ (source : ℕ). counterexample_from c.args.self.now question.wanted question.conns question.destination (Work source)))
    c.items-sources.ensures in
    some_or c.in_ok-found.found rest (sym c.is_some.ensures ∙ c.if-is_some.true)
    ∙ ap (λ (first : Option Counterexample). option_or first rest) works
    ∙ sym (of-question c.args.self.now question)

pub returns-clause-counterexample : goal.returns-clause-counterexample
returns-clause-counterexample c =
    let question = c.args.statement.now.question in
    let from_all = λ (lists : EstateLists) (works : List ℕ). first_given (λ (address : Address). first_given (λ (work : ℕ). counterexample_between lists question.wanted question.conns
    (At address) (Work work)) works) (addresses_of question.source.block) in
    let rest = from_all c.args.self.now question.destination.works in
    let works = (rw c.expect.ensures at c.in_ok-found.ensures.counterexample) ∙ ap (first_given (λ (source : ℕ). counterexample_from c.args.self.now question.wanted question.conns question.destination (Work source)))
    c.items-sources.ensures in
    let all = none_or c.in_ok-found.found rest (sym c.is_some.ensures ∙ c.if-is_some.false)
    ∙ ap (λ (first : Option Counterexample). option_or first rest) works
    ∙ sym (of-question c.args.self.now question) in
    IfOk-weaker c.first_from_addresses.result (λ (made : Option Counterexample). made ≡ from_all c.first_from_works.new.checker c.items-destinations.result.now)
    (λ (made : Option Counterexample). made ≡ counterexample_of c.args.self.now question)
    (λ made is. is ∙ ap (λ (lists : EstateLists). from_all lists c.items-destinations.result.now) (c.in_ok-found.ensures.same ∙ c.expect.ensures) ∙ ap (from_all c.args.self.now) c.items-destinations.ensures ∙ all) c.first_from_addresses.ensures.counterexample
