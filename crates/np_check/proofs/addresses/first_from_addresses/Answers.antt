use Rattle.std.proofs.Common.{ℕ, List, get_or, refl, sym, ap, subst, ◌∙◌}
use Rattle.np_check.specs.Prelude.{Address, At, EstateLists, First, Second, Work, addresses_of, counterexample_between, first_given}
use Rattle.np_kinds.specs.Prelude.{IsWorkload}
use Rattle.std.proofs.lemmas.List.{take_all}
use Rattle.np_check.proofs.AddressLemmas.{no_works, one_work_more}
use Rattle.np_check.proofs.NoneLemmas.{none_of}
use Rattle.np_check.proofs.addresses.first_from_addresses.Goals as goal

pub returns-then-is_empty-clause-counterexample : goal.returns-then-is_empty-clause-counterexample
returns-then-is_empty-clause-counterexample c =
    none_of c.args.block.now (λ address. first_given (λ (work : ℕ). counterexample_between c.args.checker.now c.args.claim.now.wanted c.args.claim.now.conns.now (At address) (Work work))
    c.args.destinations.now) (λ n. c.if-is_empty.ensures.answer (First n)) (λ n. c.if-is_empty.ensures.answer (Second n))

pub loop-destination-init : goal.loop-destination-init
loop-destination-init c = record {
  first = no_works c.args.checker.now c.args.claim.now.wanted c.args.claim.now.conns.now c.args.block.now;
  same = refl;
}

pub first_from-requires-clause-destination : goal.first_from-requires-clause-destination
first_from-requires-clause-destination c =
    subst (λ (lists : EstateLists). IsWorkload lists (get_or c.args.destinations.now c.loop-destination.destination-index 0)) (sym c.loop-destination.invariant.same)
    (c.requires c.loop-destination.destination-index 0 c.loop-destination-test.true)

pub returns-in_err-found-clause-same : goal.returns-in_err-found-clause-same
returns-in_err-found-clause-same c = c.first_from.ensures.same ∙ c.loop-destination.invariant.same

pub loop-destination-preserved : goal.loop-destination-preserved
loop-destination-preserved c =
    let first_to = λ (lists : EstateLists). first_given (λ address. counterexample_between lists c.args.claim.now.wanted c.args.claim.now.conns.now (At address)
    (Work (get_or c.args.destinations.now c.loop-destination.destination-index 0))) (addresses_of c.args.block.now) in
    let found = c.in_ok-found.ensures.counterexample ∙ ap first_to c.loop-destination.invariant.same in
    record {
      first = c.earlier-first.ensures
          ∙ one_work_more c.args.checker.now c.args.claim.now.wanted c.args.claim.now.conns.now c.args.block.now c.args.destinations.now
          c.loop-destination.destination-index c.loop-destination.first c.in_ok-found.found c.loop-destination-test.true c.loop-destination.invariant.first found;
      same = c.in_ok-found.ensures.same ∙ c.loop-destination.invariant.same;
    }

pub returns-clause-counterexample : goal.returns-clause-counterexample
returns-clause-counterexample c =
    c.loop-destination.invariant.first
    ∙ ap (λ (works : List ℕ). first_given (λ (address : Address). first_given
    (λ (work : ℕ). counterexample_between c.args.checker.now c.args.claim.now.wanted c.args.claim.now.conns.now (At address) (Work work)) works) (addresses_of c.args.block.now))
    (take_all c.loop-destination.destination-index c.args.destinations.now c.loop-destination-test.false)

pub returns-clause-same : goal.returns-clause-same
returns-clause-same c = c.loop-destination.invariant.same
