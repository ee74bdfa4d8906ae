use Rattle.std.proofs.Common.{◌≡◌, [], ◌∷◌, arith, refl}
use Rattle.std.proofs.lemmas.Result.{err_from_is_err_and}
use Rattle.np_command.proofs.LeftLemmas.{HasLeft-all, HasLeft-fault, HasLeft-finish, HasLeft-finish_fault, HasLeft-next}
use Rattle.np_command.proofs.StepLemmas.{due_all, none_given}
use Rattle.np_command_list.proofs.RowsLemmas.{HasLeft-end, HasLeft-row}
use Rattle.np_command_list.proofs.report.write_rows.Goals as goal
use Rattle.np_fold.specs.Prelude.{folding_of}
use Rattle.np_io.proofs.TakenLemmas.{TookLess-none}

pub returns-in_err-rows-clause-written : goal.returns-in_err-rows-clause-written
returns-in_err-rows-clause-written g c =
    let p = err_from_is_err_and c.from_residual.result c.from_residual.ensures.1 in
    rw (p.1, p.2) (TookLess-none _ _)

pub returns-in_err-gathered-clause-written : goal.returns-in_err-gathered-clause-written
returns-in_err-gathered-clause-written g c =
    let p = err_from_is_err_and c.from_residual-in_err-gathered.result c.from_residual-in_err-gathered.ensures.1 in
    rw (p.1, p.2) (TookLess-none _ _)

pub loop-gathered-init : goal.loop-gathered-init
loop-gathered-init g c = record {
  left = rw (c.in_ok-gathered.ensures, c.in_ok-rows.ensures.rows) (HasLeft-all _ _ _);
  least = omega arith;
  most = let few = due_all c.args.folded.now (folding_of c.args.folded.now) refl in let due = c.in_ok-rows.ensures.due in omega (arith, few, due);
}

pub returns-in_err-put-clause-written : goal.returns-in_err-put-clause-written
returns-in_err-put-clause-written g c =
    let p = err_from_is_err_and c.from_residual-in_err-put.result c.from_residual-in_err-put.ensures.1 in
    let came : c.loop-gathered.rows.rows ≡ c.in-Some.row ∷ c.next.new.self.rows = rw c.in-Some.is at c.in_ok-row.ensures.given in
    let left = HasLeft-row _ _ _ _ _ _ _ _ _ _ _ _ c.loop-gathered.invariant.left _ _ came in
    let front = rw (c.deref.ensures.value, c.in_ok-line.ensures) at c.in_err-put.ensures.front in
    rw (p.1, p.2) (HasLeft-fault _ _ _ _ _ _ _ _ _ _ left front c.in_err-put.ensures.failed)

pub loop-gathered-preserved : goal.loop-gathered-preserved
loop-gathered-preserved g c =
    let came : c.loop-gathered.rows.rows ≡ c.in-Some.row ∷ c.next.new.self.rows = rw c.in-Some.is at c.in_ok-row.ensures.given in
    let left = HasLeft-row _ _ _ _ _ _ _ _ _ _ _ _ c.loop-gathered.invariant.left _ _ came in
    let put = rw (c.deref.ensures.value, c.in_ok-line.ensures) at c.in_ok-put.ensures.put in
    record {
      left = rw c.keeps-has_rows.ensures (HasLeft-next _ _ _ _ _ _ _ _ _ _ _ left put c.in_ok-put.ensures.ok_faults);
      least = omega (arith, c.loop-gathered.invariant.least, c.in_ok-row.ensures.least);
      most = omega (arith, c.loop-gathered.invariant.most, c.in_ok-row.ensures.counted);
    }

pub returns-in_err-put-2-clause-written : goal.returns-in_err-put-2-clause-written
returns-in_err-put-2-clause-written g c =
    let p = err_from_is_err_and c.from_residual-in_err-put-2.result c.from_residual-in_err-put-2.ensures.1 in
    let done : c.loop-gathered.rows.rows ≡ [] = none_given _ c.loop-gathered.rows.rows c.next.new.self.rows c.in_ok-row.ensures.given c.in_default.not-Some in
    let left = HasLeft-end _ _ _ _ _ _ _ _ _ _ _ _ c.loop-gathered.invariant.left done in
    let front = rw (c.as_bytes.ensures.value, c.end.ensures) at c.in_err-put-2.ensures.front in
    rw (p.1, p.2) (HasLeft-fault _ _ _ _ _ _ _ _ _ _ left front c.in_err-put-2.ensures.failed)

pub returns-in_err-finish-clause-written : goal.returns-in_err-finish-clause-written
returns-in_err-finish-clause-written g c =
    let p = err_from_is_err_and c.from_residual-in_err-finish.result c.from_residual-in_err-finish.ensures.1 in
    let done : c.loop-gathered.rows.rows ≡ [] = none_given _ c.loop-gathered.rows.rows c.next.new.self.rows c.in_ok-row.ensures.given c.in_default.not-Some in
    let left = HasLeft-end _ _ _ _ _ _ _ _ _ _ _ _ c.loop-gathered.invariant.left done in
    let put = rw (c.as_bytes.ensures.value, c.end.ensures) at c.in_ok-put-2.ensures.put in
    let all = HasLeft-next _ _ _ _ _ _ _ _ _ _ _ left put c.in_ok-put-2.ensures.ok_faults in
    rw (p.1, p.2) (HasLeft-finish_fault _ _ _ _ _ _ _ _ _ all c.in_err-finish.ensures.front c.in_err-finish.ensures.failed)

pub returns-clause-written : goal.returns-clause-written
returns-clause-written g c =
    let done : c.loop-gathered.rows.rows ≡ [] = none_given _ c.loop-gathered.rows.rows c.next.new.self.rows c.in_ok-row.ensures.given c.in_default.not-Some in
    let left = HasLeft-end _ _ _ _ _ _ _ _ _ _ _ _ c.loop-gathered.invariant.left done in
    let put = rw (c.as_bytes.ensures.value, c.end.ensures) at c.in_ok-put-2.ensures.put in
    let all = HasLeft-next _ _ _ _ _ _ _ _ _ _ _ left put c.in_ok-put-2.ensures.ok_faults in
    HasLeft-finish _ _ _ _ _ _ _ _ all c.in_ok-finish.ensures.finished c.in_ok-finish.ensures.ok_faults
