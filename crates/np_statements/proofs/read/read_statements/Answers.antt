use Rattle.std.proofs.Common.{map, ap, ◌∙◌, arith}
use Rattle.std.proofs.lemmas.Result.{err_from_is_err_and}
use Rattle.np_statements.proofs.LineLemmas.{all_read, bad_line, none_read, one_more, statements-well}
use Rattle.np_statements.proofs.read.read_statements.Goals as goal

pub loop-place-init : goal.loop-place-init
loop-place-init c =
    none_read c.args.bytes.now c.deref-line-items.result.now c.new-statements.result (ap (map (λ line. line.now)) c.deref-line-items.ensures.value ∙ c.in_ok-lines.ensures) c.new-statements.ensures

pub returns-in_err-read_line-clause-read : goal.returns-in_err-read_line-clause-read
returns-in_err-read_line-clause-read c =
    let answer = err_from_is_err_and c.from_residual-in_err-read_line.result c.from_residual-in_err-read_line.ensures.1 in
    rw (answer.1, answer.2) (bad_line c.deref-line-items.result.now c.loop-place.place _ c.loop-place.statements c.in_err-read_line.field-0.0 _ c.loop-place-test.true c.loop-place.invariant
    c.in_err-read_line.ensures)

pub loop-place-preserved : goal.loop-place-preserved
loop-place-preserved c =
    one_more c.deref-line-items.result.now c.loop-place.place _ c.loop-place.statements c.in_ok-statements.statements c.in_ok-read_line.field-0 _ c.loop-place-test.true c.loop-place.invariant
    c.in_ok-read_line.ensures c.in_ok-statements.ensures

pub returns-clause-read : goal.returns-clause-read
returns-clause-read c = all_read c.deref-line-items.result.now c.loop-place.place c.loop-place.statements _ (omega arith) c.loop-place.invariant

pub returns-clause-well : goal.returns-clause-well
returns-clause-well c =
    statements-well c.args.bytes.now c.loop-place.statements (all_read c.deref-line-items.result.now c.loop-place.place c.loop-place.statements _ (omega arith) c.loop-place.invariant)
