use Rattle.std.proofs.Common.{arith, subst}
use Rattle.std.proofs.lemmas.Result.{err_from_is_err_and}
use Rattle.np_command.proofs.PuttingLemmas.{HasLeft-call, HasLeft-call_fault, flat_map-next, flat_map-none}
use Rattle.np_command.proofs.LeftLemmas.{HasLeft, HasLeft-finish, HasLeft-finish_fault}
use Rattle.np_command_explain.proofs.ShownLemmas.{left-all}
use Rattle.np_command_explain.proofs.report.write_shown.Goals as goal
use Rattle.np_command_explain.specs.Prelude.{shown_text}
use Rattle.np_io.proofs.TakenLemmas.{TookLess-none}

pub returns-in_err-gathered : goal.returns-in_err-gathered
returns-in_err-gathered g c =
    let p = err_from_is_err_and c.from_residual.result c.from_residual.ensures.1 in
    rw (p.1, p.2) (TookLess-none _ _)

pub loop-one-init : goal.loop-one-init
loop-one-init g c = rw c.in_ok-gathered.ensures (left-all _ _ _ _ _)

pub returns-in_err-put_shown : goal.returns-in_err-put_shown
returns-in_err-put_shown g c =
    let p = err_from_is_err_and c.from_residual-in_err-put_shown.result c.from_residual-in_err-put_shown.ensures.1 in
    let left = subst (HasLeft _ _ _ _ _ _) (flat_map-next (shown_text c.args.from.now c.args.to.now) c.args.shown.now c.loop-one.one-index c.one-item.result c.loop-one-test.true c.one-item.is)
    c.loop-one.invariant in
    rw (p.1, p.2) (HasLeft-call_fault _ _ _ _ _ _ _ _ _ _ _ left c.in_err-put_shown.ensures)

pub loop-one-preserved : goal.loop-one-preserved
loop-one-preserved g c =
    let left = subst (HasLeft _ _ _ _ _ _) (flat_map-next (shown_text c.args.from.now c.args.to.now) c.args.shown.now c.loop-one.one-index c.one-item.result c.loop-one-test.true c.one-item.is)
    c.loop-one.invariant in
    HasLeft-call _ _ _ _ _ _ _ _ _ _ _ left c.in_ok-put_shown.ensures

pub returns-in_err-finish : goal.returns-in_err-finish
returns-in_err-finish g c =
    let p = err_from_is_err_and c.from_residual-in_err-finish.result c.from_residual-in_err-finish.ensures.1 in
    let left = subst (HasLeft _ _ _ _ _ _) (flat_map-none (shown_text c.args.from.now c.args.to.now) c.args.shown.now c.loop-one.one-index (omega (arith, c.loop-one-test.false))) c.loop-one.invariant
    in
    rw (p.1, p.2) (HasLeft-finish_fault _ _ _ _ _ _ _ _ _ left c.in_err-finish.ensures.front c.in_err-finish.ensures.failed)

pub returns : goal.returns
returns g c =
    let left = subst (HasLeft _ _ _ _ _ _) (flat_map-none (shown_text c.args.from.now c.args.to.now) c.args.shown.now c.loop-one.one-index (omega (arith, c.loop-one-test.false))) c.loop-one.invariant
    in
    HasLeft-finish _ _ _ _ _ _ _ _ left c.in_ok-finish.ensures.finished c.in_ok-finish.ensures.ok_faults
