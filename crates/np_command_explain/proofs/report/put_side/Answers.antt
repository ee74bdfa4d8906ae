use Rattle.std.proofs.Common.{List, ap, arith, flat_map, subst, sym}
use Rattle.std.proofs.lemmas.Result.{err_from_is_err_and}
use Rattle.np_command.proofs.PuttingLemmas.{HasLeft-put, flat_map-next, flat_map-none}
use Rattle.np_command.proofs.LeftLemmas.{HasLeft, HasLeft-fault, HasLeft-memory, HasLeft-next}
use Rattle.np_command_explain.proofs.ShownLemmas.{left-side}
use Rattle.np_command_explain.proofs.report.put_side.Goals as goal
use Rattle.np_command_explain.specs.Prelude.{Part, part_line, parts_at}

pub returns-in_err-put : goal.returns-in_err-put
returns-in_err-put g c =
    let p = err_from_is_err_and c.from_residual-in_err-put.result c.from_residual-in_err-put.ensures.1 in
    let left = left-side (g.O.Sink.taken c.args.out.now) (g.O.Sink.faults c.args.out.now) c.args.gathered.now c.args.direction c.args.name.now c.args.one.now.mark
    (parts_at c.args.direction c.args.one.now.made) in
    let front = rw (c.as_bytes.ensures.value, c.in_ok-head.ensures) at c.in_err-put.ensures.front in
    rw (p.1, p.2) (HasLeft-fault _ _ _ _ _ _ _ _ _ _ left front c.in_err-put.ensures.failed)

pub loop-part-init : goal.loop-part-init
loop-part-init g c =
    let left = left-side (g.O.Sink.taken c.args.out.now) (g.O.Sink.faults c.args.out.now) c.args.gathered.now c.args.direction c.args.name.now c.args.one.now.mark
    (parts_at c.args.direction c.args.one.now.made) in
    let put = rw (c.as_bytes.ensures.value, c.in_ok-head.ensures) at c.in_ok-put.ensures.put in
    let next = HasLeft-next _ _ _ _ _ _ _ _ _ _ _ left put c.in_ok-put.ensures.ok_faults in
    subst (HasLeft _ _ _ _ _ _) (ap (λ (parts : List Part). flat_map (part_line c.args.direction) parts) (sym c.parts_at-parts.ensures)) next

pub returns-in_err-line : goal.returns-in_err-line
returns-in_err-line g c =
    let p = err_from_is_err_and c.from_residual-in_err-line.result c.from_residual-in_err-line.ensures.1 in
    rw (p.1, p.2) (HasLeft-memory _ _ _ _ _ _ _ c.loop-part.invariant)

pub returns-in_err-put-2 : goal.returns-in_err-put-2
returns-in_err-put-2 g c =
    let p = err_from_is_err_and c.from_residual-in_err-put-2.result c.from_residual-in_err-put-2.ensures.1 in
    let left = subst (HasLeft _ _ _ _ _ _) (flat_map-next (part_line c.args.direction) c.parts_at-parts.result.now c.loop-part.part-index c.part-item.result c.loop-part-test.true c.part-item.is)
    c.loop-part.invariant in
    let front = rw (c.as_bytes-in-loop-part.ensures.value, c.in_ok-line.ensures) at c.in_err-put-2.ensures.front in
    rw (p.1, p.2) (HasLeft-fault _ _ _ _ _ _ _ _ _ _ left front c.in_err-put-2.ensures.failed)

pub loop-part-preserved : goal.loop-part-preserved
loop-part-preserved g c =
    let left = subst (HasLeft _ _ _ _ _ _) (flat_map-next (part_line c.args.direction) c.parts_at-parts.result.now c.loop-part.part-index c.part-item.result c.loop-part-test.true c.part-item.is)
    c.loop-part.invariant in
    let put = rw (c.as_bytes-in-loop-part.ensures.value, c.in_ok-line.ensures) at c.in_ok-put-2.ensures.put in
    HasLeft-next _ _ _ _ _ _ _ _ _ _ _ left put c.in_ok-put-2.ensures.ok_faults

pub returns : goal.returns
returns g c =
    HasLeft-put _ _ _ _ _ _ _ (subst (HasLeft _ _ _ _ _ _) (flat_map-none (part_line c.args.direction) c.parts_at-parts.result.now c.loop-part.part-index (omega (arith, c.loop-part-test.false)))
    c.loop-part.invariant)
