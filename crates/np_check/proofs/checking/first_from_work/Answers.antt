use Rattle.std.proofs.Common.{◌≡◌, Option, sym, ap, ◌∙◌}
use Rattle.std.specs.Option.{option_or}
use Rattle.std.proofs.lemmas.Result.{IfOk-weaker}
use Rattle.np_check.proofs.PairLemmas.{from-work, none_or, some_or}
use Rattle.np_check.specs.Prelude.{At, Counterexample, EstateLists, Work, addresses_of, counterexample_between, counterexample_from, first_given}
use Rattle.np_check.proofs.checking.first_from_work.Goals as goal

pub returns-then-is_some-clause-counterexample : goal.returns-then-is_some-clause-counterexample
returns-then-is_some-clause-counterexample c =
    let to_works = c.in_ok-found.ensures.counterexample
    ∙ ap (first_given (λ destination. counterexample_between c.args.checker.now c.args.claim.now.wanted c.args.claim.now.conns.now (Work c.args.source) (Work destination))) c.items-destinations.ensures in
    let rest = first_given (λ address. counterexample_between c.args.checker.now c.args.claim.now.wanted c.args.claim.now.conns.now (Work c.args.source) (At address)) (addresses_of c.args.ends.now.block) in
    some_or c.in_ok-found.found rest (sym c.is_some.ensures ∙ c.if-is_some.true)
    ∙ ap (λ (first : Option Counterexample). option_or first rest) to_works
    ∙ sym (from-work c.args.checker.now c.args.claim.now.wanted c.args.claim.now.conns.now c.args.ends.now c.args.source)

pub returns-clause-counterexample : goal.returns-clause-counterexample
returns-clause-counterexample c =
    let to_works = c.in_ok-found.ensures.counterexample
    ∙ ap (first_given (λ destination. counterexample_between c.args.checker.now c.args.claim.now.wanted c.args.claim.now.conns.now (Work c.args.source) (Work destination))) c.items-destinations.ensures in
    let to_addresses = λ (lists : EstateLists). first_given (λ address. counterexample_between lists c.args.claim.now.wanted c.args.claim.now.conns.now (Work c.args.source) (At address))
    (addresses_of c.args.ends.now.block) in
    let rest = to_addresses c.args.checker.now in
    let all = none_or c.in_ok-found.found rest (sym c.is_some.ensures ∙ c.if-is_some.false)
    ∙ ap (λ (first : Option Counterexample). option_or first rest) to_works
    ∙ sym (from-work c.args.checker.now c.args.claim.now.wanted c.args.claim.now.conns.now c.args.ends.now c.args.source) in
    IfOk-weaker c.first_to_addresses.result (λ (made : Option Counterexample). made ≡ to_addresses c.first_to_works.new.checker)
    (λ (made : Option Counterexample). made ≡ counterexample_from c.args.checker.now c.args.claim.now.wanted c.args.claim.now.conns.now c.args.ends.now (Work c.args.source)) (λ made is. is
    ∙ ap to_addresses c.in_ok-found.ensures.same ∙ all) c.first_to_addresses.ensures.counterexample
