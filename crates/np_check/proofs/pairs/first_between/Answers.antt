use Rattle.std.proofs.Common.{◌≡◌, false, get_or, sym, ap, ◌∙◌}
use Rattle.np_addr.specs.declared.address.Family.TheVariants.{Four}
use Rattle.np_check.proofs.PairLemmas.{between-alone, between-apart, found_at, none_left}
use Rattle.np_check.specs.Prelude.{EstateLists, Work, counterexample_in}
use Rattle.np_model.specs.Prelude.{families_of}
use Rattle.np_fold.specs.Prelude.{Folding, folding_of}
use Rattle.np_kinds.specs.Prelude.{is_alone}
use Rattle.np_check.proofs.pairs.first_between.Goals as goal

pub returns-then-is_alone-clause-counterexample : goal.returns-then-is_alone-clause-counterexample
returns-then-is_alone-clause-counterexample c =
    let folding : c.workloads.result.now ≡ folding_of c.args.checker.now = c.workloads.ensures.value ∙ ap folding_of c.folded-folded.ensures in
    between-alone c.args.checker.now c.args.claim.now.wanted c.args.claim.now.conns.now c.args.source c.args.destination
    (ap (λ (f : Folding). is_alone f c.args.source c.args.destination) (sym folding) ∙ sym c.is_alone.ensures ∙ c.if-is_alone.true)

pub returns-then-is_some-clause-counterexample : goal.returns-then-is_some-clause-counterexample
returns-then-is_some-clause-counterexample c =
    let folding : c.workloads.result.now ≡ folding_of c.args.checker.now = c.workloads.ensures.value ∙ ap folding_of c.folded-folded.ensures in
    let apart : is_alone (folding_of c.args.checker.now) c.args.source c.args.destination ≡ false = ap (λ (f : Folding). is_alone f c.args.source c.args.destination)
    (sym folding) ∙ sym c.is_alone.ensures ∙ c.if-is_alone.false in
    let families = c.families-family-items.ensures ∙ ap (λ (lists : EstateLists). families_of lists.pods) (c.estate.ensures.value ∙ c.folded-folded.ensures) in
    let found = c.in_ok-found.ensures.counterexample ∙ ap (λ (lists : EstateLists). counterexample_in lists c.args.claim.now.wanted c.args.claim.now.conns.now (Work c.args.source)
    (Work c.args.destination) (get_or c.families-family-items.result.now c.loop-family.family-index Four)) c.loop-family.invariant.same in
    found_at (counterexample_in c.args.checker.now c.args.claim.now.wanted c.args.claim.now.conns.now (Work c.args.source)
    (Work c.args.destination)) c.families-family-items.result.now c.loop-family.family-index Four c.in_ok-found.found c.loop-family-test.true c.loop-family.invariant.left found
    (sym c.is_some.ensures ∙ c.if-is_some.true)
    ∙ between-apart c.args.checker.now c.args.claim.now.wanted c.args.claim.now.conns.now c.args.source c.args.destination c.families-family-items.result.now apart families

pub returns-clause-counterexample : goal.returns-clause-counterexample
returns-clause-counterexample c =
    let folding : c.workloads.result.now ≡ folding_of c.args.checker.now = c.workloads.ensures.value ∙ ap folding_of c.folded-folded.ensures in
    let apart : is_alone (folding_of c.args.checker.now) c.args.source c.args.destination ≡ false = ap (λ (f : Folding). is_alone f c.args.source c.args.destination)
    (sym folding) ∙ sym c.is_alone.ensures ∙ c.if-is_alone.false in
    let families = c.families-family-items.ensures ∙ ap (λ (lists : EstateLists). families_of lists.pods) (c.estate.ensures.value ∙ c.folded-folded.ensures) in
    none_left (counterexample_in c.args.checker.now c.args.claim.now.wanted c.args.claim.now.conns.now (Work c.args.source)
    (Work c.args.destination)) c.families-family-items.result.now c.loop-family.family-index c.loop-family-test.false c.loop-family.invariant.left
    ∙ between-apart c.args.checker.now c.args.claim.now.wanted c.args.claim.now.conns.now c.args.source c.args.destination c.families-family-items.result.now apart families
