use Rattle.std.proofs.Common.{arith, refl, rules, subst, ◌∙◌}
use Rattle.std.proofs.lemmas.Result.{err_from_is_err_and}
use Rattle.np_command_exposure.proofs.ExposureLemmas.{left-next, left-none}
use Rattle.np_command.proofs.LeftLemmas.{HasLeft, HasLeft-fault, HasLeft-finish, HasLeft-finish_fault, HasLeft-last, HasLeft-next}
use Rattle.np_command_exposure.proofs.report.write_sides.Goals as goal
use Rattle.np_io.proofs.TakenLemmas.{TookLess-none}

pub returns-in_err-gathered : goal.returns-in_err-gathered
returns-in_err-gathered g c =
    let p = err_from_is_err_and c.from_residual.result c.from_residual.ensures.1 in
    rw (p.1, p.2) (TookLess-none _ _)

pub returns-in_err-put : goal.returns-in_err-put
returns-in_err-put g c =
    let p = err_from_is_err_and c.from_residual-in_err-put.result c.from_residual-in_err-put.ensures.1 in
    let left = subst (HasLeft _ _ _ _ _ _) (left-next g.F.Form.bytes c.args.folded.now c.args.sides.now c.loop-side.side-index _ c.loop-side.has_rows c.in_ok-rows.rows _ c.loop-side-test.true
    c.in_ok-rows.ensures.rows refl) c.loop-side.invariant.left in
    let front = rw (c.deref.ensures.value, c.in_ok-lines.ensures, c.items.ensures) at c.in_err-put.ensures.front in
    rw (p.1, p.2) (HasLeft-fault _ _ _ _ _ _ _ _ _ _ left front c.in_err-put.ensures.failed)

pub loop-side-preserved : goal.loop-side-preserved
loop-side-preserved g c =
    let left = subst (HasLeft _ _ _ _ _ _) (left-next g.F.Form.bytes c.args.folded.now c.args.sides.now c.loop-side.side-index _ c.loop-side.has_rows c.in_ok-rows.rows c.is_empty.result
    c.loop-side-test.true c.in_ok-rows.ensures.rows (search rules)) c.loop-side.invariant.left in
    let put = rw (c.deref.ensures.value, c.in_ok-lines.ensures, c.items.ensures) at c.in_ok-put.ensures.put in
    record { left = HasLeft-next _ _ _ _ _ _ _ _ _ _ _ left put c.in_ok-put.ensures.ok_faults; known = c.in_ok-rows.ensures.known ∙ c.loop-side.invariant.known }

pub returns-in_err-put-2 : goal.returns-in_err-put-2
returns-in_err-put-2 g c =
    let p = err_from_is_err_and c.from_residual-in_err-put-2.result c.from_residual-in_err-put-2.ensures.1 in
    let left = HasLeft-last _ _ _ _ _ _ _ (subst (HasLeft _ _ _ _ _ _)
    (left-none g.F.Form.bytes c.args.folded.now c.args.sides.now c.loop-side.side-index c.loop-side.has_rows (omega (arith, c.loop-side-test.false))) c.loop-side.invariant.left) in
    let front = rw (c.as_bytes.ensures.value, c.end.ensures) at c.in_err-put-2.ensures.front in
    rw (p.1, p.2) (HasLeft-fault _ _ _ _ _ _ _ _ _ _ left front c.in_err-put-2.ensures.failed)

pub returns-in_err-finish : goal.returns-in_err-finish
returns-in_err-finish g c =
    let p = err_from_is_err_and c.from_residual-in_err-finish.result c.from_residual-in_err-finish.ensures.1 in
    let left = HasLeft-last _ _ _ _ _ _ _ (subst (HasLeft _ _ _ _ _ _)
    (left-none g.F.Form.bytes c.args.folded.now c.args.sides.now c.loop-side.side-index c.loop-side.has_rows (omega (arith, c.loop-side-test.false))) c.loop-side.invariant.left) in
    let put = rw (c.as_bytes.ensures.value, c.end.ensures) at c.in_ok-put-2.ensures.put in
    rw (p.1, p.2) (HasLeft-finish_fault _ _ _ _ _ _ _ _ _ (HasLeft-next _ _ _ _ _ _ _ _ _ _ _ left put c.in_ok-put-2.ensures.ok_faults) c.in_err-finish.ensures.front c.in_err-finish.ensures.failed)

pub returns : goal.returns
returns g c =
    let left = HasLeft-last _ _ _ _ _ _ _ (subst (HasLeft _ _ _ _ _ _)
    (left-none g.F.Form.bytes c.args.folded.now c.args.sides.now c.loop-side.side-index c.loop-side.has_rows (omega (arith, c.loop-side-test.false))) c.loop-side.invariant.left) in
    let put = rw (c.as_bytes.ensures.value, c.end.ensures) at c.in_ok-put-2.ensures.put in
    HasLeft-finish _ _ _ _ _ _ _ _ (HasLeft-next _ _ _ _ _ _ _ _ _ _ _ left put c.in_ok-put-2.ensures.ok_faults) c.in_ok-finish.ensures.finished c.in_ok-finish.ensures.ok_faults
