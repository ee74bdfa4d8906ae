use Rattle.std.proofs.Common.{ap, ◌∙◌, true, false}
use Rattle.std.proofs.lemmas.Result.{IfOk-weaker}
use Rattle.np_exposure.proofs.StateLemmas.{alone-step, fork-states-by, fork-step}
use Rattle.np_exposure.specs.Prelude.{can_be, narrowed}
use Rattle.np_exposure.proofs.step.next_step.Goals as goal

pub returns-then-not-can_meet-can_miss-clause-step : goal.returns-then-not-can_meet-can_miss-clause-step
returns-then-not-can_meet-can_miss-clause-step c =
    alone-step c.args.requirement.now c.args.case.now.state.items c.requires c.can_be-can_meet.result c.can_be-can_miss.result
    (c.can_be-can_meet.ensures ∙ ap (can_be true c.args.requirement.now) c.deref.ensures.value)
    (c.can_be-can_miss.ensures ∙ ap (can_be false c.args.requirement.now) c.deref-2.ensures.value) c.if-not-can_meet-can_miss.true

pub returns-clause-step : goal.returns-clause-step
returns-clause-step c =
    IfOk-weaker c.fork.result _ _
    (λ made forked. fork-step c.args.requirement.now c.args.case.now.state.items c.in_ok-met.met.items c.in_ok-unmet.unmet.items c.fork.new.case.state.items made
    c.can_be-can_meet.result c.can_be-can_miss.result
    (c.in_ok-met.ensures ∙ ap (narrowed true c.args.requirement.now) c.deref-3.ensures.value) (c.in_ok-unmet.ensures ∙ ap (narrowed false c.args.requirement.now) c.deref-4.ensures.value)
    (c.can_be-can_meet.ensures ∙ ap (can_be true c.args.requirement.now) c.deref.ensures.value)
    (c.can_be-can_miss.ensures ∙ ap (can_be false c.args.requirement.now) c.deref-2.ensures.value) c.if-not-can_meet-can_miss.false forked)
    c.fork.ensures.fork

pub returns-clause-aside : goal.returns-clause-aside
returns-clause-aside c =
    IfOk-weaker c.fork.result _ _
    (λ made forked. (fork-states-by c.args.requirement.now c.args.case.now.state.items c.in_ok-met.met.items c.in_ok-unmet.unmet.items c.fork.new.case.state.items
    (c.in_ok-met.ensures ∙ ap (narrowed true c.args.requirement.now) c.deref-3.ensures.value) (c.in_ok-unmet.ensures ∙ ap (narrowed false c.args.requirement.now) c.deref-4.ensures.value)
    made c.can_be-can_meet.result c.can_be-can_miss.result c.requires
    (c.can_be-can_meet.ensures ∙ ap (can_be true c.args.requirement.now) c.deref.ensures.value)
    (c.can_be-can_miss.ensures ∙ ap (can_be false c.args.requirement.now) c.deref-2.ensures.value) c.if-not-can_meet-can_miss.false forked).1)
    c.fork.ensures.fork

pub returns-clause-next : goal.returns-clause-next
returns-clause-next c =
    IfOk-weaker c.fork.result _ _
    (λ made forked. (fork-states-by c.args.requirement.now c.args.case.now.state.items c.in_ok-met.met.items c.in_ok-unmet.unmet.items c.fork.new.case.state.items
    (c.in_ok-met.ensures ∙ ap (narrowed true c.args.requirement.now) c.deref-3.ensures.value) (c.in_ok-unmet.ensures ∙ ap (narrowed false c.args.requirement.now) c.deref-4.ensures.value)
    made c.can_be-can_meet.result c.can_be-can_miss.result c.requires
    (c.can_be-can_meet.ensures ∙ ap (can_be true c.args.requirement.now) c.deref.ensures.value)
    (c.can_be-can_miss.ensures ∙ ap (can_be false c.args.requirement.now) c.deref-2.ensures.value) c.if-not-can_meet-can_miss.false forked).0)
    c.fork.ensures.fork
