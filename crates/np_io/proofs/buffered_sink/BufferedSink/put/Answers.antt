use Rattle.std.proofs.Common.{◌≡◌, ◌<◌, [], length, arith, ◌∙◌}
use Rattle.std.proofs.lemmas.Result.{err_from_is_err_and}
use Rattle.np_io.proofs.TakenLemmas.{TookAllBut-last, TookFront-after, TookFront-append}
use Rattle.np_io.proofs.buffered_sink.BufferedSink.put.Goals as goal

pub returns-in_err-write_whole-clause-front : goal.returns-in_err-write_whole-clause-front
returns-in_err-write_whole-clause-front g c =
    let p = err_from_is_err_and c.from_residual-in_err-write_whole.result c.from_residual-in_err-write_whole.ensures.1 in
    let handed = c.in_ok-hand_on.ensures in
    rw (p.1, c.split_at.ensures.by_index.0) (TookFront-after _ _ _ _ _ handed.taken (TookFront-append _ _ _ _ c.in_err-write_whole.ensures.front))

pub returns-clause-put : goal.returns-clause-put
returns-clause-put g c =
    let handed = c.in_ok-hand_on.ensures in
    let parts = c.split_at.ensures in
    let none : c.self-2.inside.bytes.items ≡ [] = c.self-2.view_is ∙ handed.empty in
    let last = rw none at (rw c.unwrap-2.ensures at c.extend_from_slice-2.ensures.items) in
    let some : 0 < length c.split_at.result.1.now = omega (arith, parts.back_len, c.saturating_sub.ensures, c.if-bytes-len.false, c.len.ensures) in
    rw (parts.by_index.0, last) (TookAllBut-last _ _ _ _ _ _ handed.taken c.in_ok-write_whole.ensures.written some)
