use Rattle.std.proofs.lemmas.Result.{err_from_is_err_and}
use Rattle.np_command.proofs.PuttingLemmas.{HasLeft-call, HasLeft-call_fault, HasLeft-put}
use Rattle.np_command.proofs.LeftLemmas.{HasLeft-fault, HasLeft-last, HasLeft-memory, HasLeft-next}
use Rattle.np_command_explain.proofs.ShownLemmas.{left-shown}
use Rattle.np_command_explain.proofs.report.put_shown.Goals as goal

pub returns-in_err-put_side : goal.returns-in_err-put_side
returns-in_err-put_side g c =
    let p = err_from_is_err_and c.from_residual.result c.from_residual.ensures.1 in
    let first = left-shown (g.O.Sink.taken c.args.out.now) (g.O.Sink.faults c.args.out.now) c.args.gathered.now c.args.from.now c.args.to.now c.args.one.now in
    rw (p.1, p.2) (HasLeft-call_fault _ _ _ _ _ _ _ _ _ _ _ first c.in_err-put_side.ensures)

pub returns-in_err-put_side-2 : goal.returns-in_err-put_side-2
returns-in_err-put_side-2 g c =
    let p = err_from_is_err_and c.from_residual-in_err-put_side-2.result c.from_residual-in_err-put_side-2.ensures.1 in
    let first = left-shown (g.O.Sink.taken c.args.out.now) (g.O.Sink.faults c.args.out.now) c.args.gathered.now c.args.from.now c.args.to.now c.args.one.now in
    let second = HasLeft-call _ _ _ _ _ _ _ _ _ _ _ first c.in_ok-put_side.ensures in
    rw (p.1, p.2) (HasLeft-call_fault _ _ _ _ _ _ _ _ _ _ _ second c.in_err-put_side-2.ensures)

pub returns-in_err-row : goal.returns-in_err-row
returns-in_err-row g c =
    let p = err_from_is_err_and c.from_residual-in_err-row.result c.from_residual-in_err-row.ensures.1 in
    let first = left-shown (g.O.Sink.taken c.args.out.now) (g.O.Sink.faults c.args.out.now) c.args.gathered.now c.args.from.now c.args.to.now c.args.one.now in
    let second = HasLeft-call _ _ _ _ _ _ _ _ _ _ _ first c.in_ok-put_side.ensures in
    let third = HasLeft-call _ _ _ _ _ _ _ _ _ _ _ second c.in_ok-put_side-2.ensures in
    rw (p.1, p.2) (HasLeft-memory _ _ _ _ _ _ _ third)

pub returns-in_err-put : goal.returns-in_err-put
returns-in_err-put g c =
    let p = err_from_is_err_and c.from_residual-in_err-put.result c.from_residual-in_err-put.ensures.1 in
    let first = left-shown (g.O.Sink.taken c.args.out.now) (g.O.Sink.faults c.args.out.now) c.args.gathered.now c.args.from.now c.args.to.now c.args.one.now in
    let second = HasLeft-call _ _ _ _ _ _ _ _ _ _ _ first c.in_ok-put_side.ensures in
    let third = HasLeft-last _ _ _ _ _ _ _ (HasLeft-call _ _ _ _ _ _ _ _ _ _ _ second c.in_ok-put_side-2.ensures) in
    let front = rw (c.as_bytes.ensures.value, c.in_ok-row.ensures) at c.in_err-put.ensures.front in
    rw (p.1, p.2) (HasLeft-fault _ _ _ _ _ _ _ _ _ _ third front c.in_err-put.ensures.failed)

pub returns : goal.returns
returns g c =
    let first = left-shown (g.O.Sink.taken c.args.out.now) (g.O.Sink.faults c.args.out.now) c.args.gathered.now c.args.from.now c.args.to.now c.args.one.now in
    let second = HasLeft-call _ _ _ _ _ _ _ _ _ _ _ first c.in_ok-put_side.ensures in
    let third = HasLeft-last _ _ _ _ _ _ _ (HasLeft-call _ _ _ _ _ _ _ _ _ _ _ second c.in_ok-put_side-2.ensures) in
    let put = rw (c.as_bytes.ensures.value, c.in_ok-row.ensures) at c.in_ok-put.ensures.put in
    HasLeft-put _ _ _ _ _ _ _ (HasLeft-next _ _ _ _ _ _ _ _ _ _ _ third put c.in_ok-put.ensures.ok_faults)
