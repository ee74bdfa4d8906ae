use Rattle.std.proofs.Common.{rules, subst, refl, ◌∙◌}
use Rattle.std.proofs.lemmas.Result.{err_from_is_err_and}
use Rattle.np_command_flatten.proofs.FlattenLemmas.{flatten_text-is, to_come-next, to_come-none}
use Rattle.np_command.proofs.LeftLemmas.{HasLeft, HasLeft-all, HasLeft-fault, HasLeft-finish, HasLeft-finish_fault, HasLeft-last, HasLeft-next}
use Rattle.np_command_flatten.proofs.report.write_policies.Goals as goal
use Rattle.np_io.proofs.TakenLemmas.{TookLess-none}

pub returns-in_err-gathered : goal.returns-in_err-gathered
returns-in_err-gathered g c =
    let p = err_from_is_err_and c.from_residual.result c.from_residual.ensures.1 in
    rw (p.1, p.2) (TookLess-none _ _)

pub loop-group-init : goal.loop-group-init
loop-group-init g c =
    let all = subst (HasLeft _ _ _ _ _ _) (flatten_text-is c.args.flat.now) (HasLeft-all _ _ _) in
    let put = rw (c.as_bytes.ensures.value, c.in_ok-gathered.ensures) at c.in_ok-put.ensures.put in
    record { same = refl; left = HasLeft-next _ _ _ _ _ _ _ _ _ _ _ all put c.in_ok-put.ensures.ok_faults }

pub returns-in_err-put-2 : goal.returns-in_err-put-2
returns-in_err-put-2 g c =
    let p = err_from_is_err_and c.from_residual-in_err-put-2.result c.from_residual-in_err-put-2.ensures.1 in
    let left = subst (HasLeft _ _ _ _ _ _) (to_come-next c.args.flat.now c.loop-group.group (search rules)) c.loop-group.invariant.left in
    let front = rw (c.deref.ensures.value, c.in_ok-text.ensures.text, c.loop-group.invariant.same) at c.in_err-put-2.ensures.front in
    rw (p.1, p.2) (HasLeft-fault _ _ _ _ _ _ _ _ _ _ left front c.in_err-put-2.ensures.failed)

pub loop-group-preserved : goal.loop-group-preserved
loop-group-preserved g c =
    let left = subst (HasLeft _ _ _ _ _ _) (to_come-next c.args.flat.now c.loop-group.group (search rules)) c.loop-group.invariant.left in
    let put = rw (c.deref.ensures.value, c.in_ok-text.ensures.text, c.loop-group.invariant.same) at c.in_ok-put-2.ensures.put in
    record {
      same = c.in_ok-text.ensures.same ∙ c.loop-group.invariant.same;
      left = HasLeft-next _ _ _ _ _ _ _ _ _ _ _ left put c.in_ok-put-2.ensures.ok_faults;
    }

pub returns-in_err-put-3 : goal.returns-in_err-put-3
returns-in_err-put-3 g c =
    let p = err_from_is_err_and c.from_residual-in_err-put-3.result c.from_residual-in_err-put-3.ensures.1 in
    let last = subst (HasLeft _ _ _ _ _ _) (to_come-none c.args.flat.now c.loop-group.group (search rules)) c.loop-group.invariant.left in
    let front = rw c.as_bytes-2.ensures.value at c.in_err-put-3.ensures.front in
    rw (p.1, p.2) (HasLeft-fault _ _ _ _ _ _ _ _ _ _ last front c.in_err-put-3.ensures.failed)

pub returns-in_err-put-4 : goal.returns-in_err-put-4
returns-in_err-put-4 g c =
    let p = err_from_is_err_and c.from_residual-in_err-put-4.result c.from_residual-in_err-put-4.ensures.1 in
    let last = subst (HasLeft _ _ _ _ _ _) (to_come-none c.args.flat.now c.loop-group.group (search rules)) c.loop-group.invariant.left in
    let ended = HasLeft-last _ _ _ _ _ _ _ (HasLeft-next _ _ _ _ _ _ _ _ _ _ _ last (rw c.as_bytes-2.ensures.value at c.in_ok-put-3.ensures.put) c.in_ok-put-3.ensures.ok_faults) in
    rw (p.1, p.2) (HasLeft-fault _ _ _ _ _ _ _ _ _ _ ended c.in_err-put-4.ensures.front c.in_err-put-4.ensures.failed)

pub returns-in_err-finish : goal.returns-in_err-finish
returns-in_err-finish g c =
    let p = err_from_is_err_and c.from_residual-in_err-finish.result c.from_residual-in_err-finish.ensures.1 in
    let last = subst (HasLeft _ _ _ _ _ _) (to_come-none c.args.flat.now c.loop-group.group (search rules)) c.loop-group.invariant.left in
    let ended = HasLeft-last _ _ _ _ _ _ _ (HasLeft-next _ _ _ _ _ _ _ _ _ _ _ last (rw c.as_bytes-2.ensures.value at c.in_ok-put-3.ensures.put) c.in_ok-put-3.ensures.ok_faults) in
    rw (p.1, p.2) (HasLeft-finish_fault _ _ _ _ _ _ _ _ _ (HasLeft-next _ _ _ _ _ _ _ _ _ _ _ ended c.in_ok-put-4.ensures.put c.in_ok-put-4.ensures.ok_faults) c.in_err-finish.ensures.front
    c.in_err-finish.ensures.failed)

pub returns : goal.returns
returns g c =
    let last = subst (HasLeft _ _ _ _ _ _) (to_come-none c.args.flat.now c.loop-group.group (search rules)) c.loop-group.invariant.left in
    let ended = HasLeft-last _ _ _ _ _ _ _ (HasLeft-next _ _ _ _ _ _ _ _ _ _ _ last (rw c.as_bytes-2.ensures.value at c.in_ok-put-3.ensures.put) c.in_ok-put-3.ensures.ok_faults) in
    HasLeft-finish _ _ _ _ _ _ _ _ (HasLeft-next _ _ _ _ _ _ _ _ _ _ _ ended c.in_ok-put-4.ensures.put c.in_ok-put-4.ensures.ok_faults) c.in_ok-finish.ensures.finished c.in_ok-finish.ensures.ok_faults
