use Rattle.std.proofs.Common.{◌<◌, None, Some, if◌then◌else◌, arith, sym, ap, subst, ◌∙◌}
use Rattle.np_conns.specs.Prelude.{Conns}
use Rattle.np_flatten.specs.Prelude.{EstateLists, set_of}
use Rattle.np_fold.specs.Prelude.{folding_of}
use Rattle.np_flatten.proofs.ReceiverFacts.{alone-from, next-in, next-is, own-is}
use Rattle.np_flatten.proofs.flat.Flat.set_within.Goals as goal
use Rattle.np_kinds.specs.Prelude.{is_alone, number_of_workloads}

pub returns-then-is_some-clause-set : goal.returns-then-is_some-clause-set
returns-then-is_some-clause-set c =
    let told = c.in_ok-within.ensures ∙ ap (λ (l : EstateLists). if is_alone (folding_of l) c.first-first.result c.first-first.result then None else Some
    (set_of l c.first-first.result c.first-first.result)) c.self.view_is in
    own-is c.args.self.now c.args.group c.first-first.result c.in_ok-within.within c.requires c.first-first.ensures.value told (sym c.is_some.ensures ∙ c.if-is_some.true)

pub between-requires-clause-destination : goal.between-requires-clause-destination
between-requires-clause-destination c =
    subst (λ (l : EstateLists). c.in-Some.next < number_of_workloads l) (sym c.self.view_is)
    (next-in c.args.self.now c.first-first.result c.args.group c.in-Some.next c.in-Some.ensures c.first-first.ensures.within).1

pub between-requires-clause-apart : goal.between-requires-clause-apart
between-requires-clause-apart c =
    let behind = (next-in c.args.self.now c.first-first.result c.args.group c.in-Some.next c.in-Some.ensures c.first-first.ensures.within).0 in
    λ same. omega (arith, behind, same)

pub returns-in-Some-clause-set : goal.returns-in-Some-clause-set
returns-in-Some-clause-set c =
    let told = c.in_ok-within.ensures ∙ ap (λ (l : EstateLists). if is_alone (folding_of l) c.first-first.result c.first-first.result then None else Some
    (set_of l c.first-first.result c.first-first.result)) c.self.view_is in
    let alone = alone-from (is_alone (folding_of c.args.self.now) c.first-first.result c.first-first.result)
    (set_of c.args.self.now c.first-first.result c.first-first.result) c.in_ok-within.within told (sym c.is_some.ensures ∙ c.if-is_some.false) in
    ap (λ (set : Conns). Some set) (c.in_ok-between-in-Some.ensures.set ∙ ap (λ (l : EstateLists). set_of l c.first-first.result c.in-Some.next) c.self.view_is)
    ∙ next-is c.args.self.now c.args.group c.first-first.result (Some c.in-Some.next) c.requires c.first-first.ensures.value alone c.in-Some.ensures

pub returns-clause-set : goal.returns-clause-set
returns-clause-set c =
    let told = c.in_ok-within.ensures ∙ ap (λ (l : EstateLists). if is_alone (folding_of l) c.first-first.result c.first-first.result then None else Some
    (set_of l c.first-first.result c.first-first.result)) c.self.view_is in
    let alone = alone-from (is_alone (folding_of c.args.self.now) c.first-first.result c.first-first.result)
    (set_of c.args.self.now c.first-first.result c.first-first.result) c.in_ok-within.within told (sym c.is_some.ensures ∙ c.if-is_some.false) in
    next-is c.args.self.now c.args.group c.first-first.result None c.requires c.first-first.ensures.value alone c.in-None.ensures
