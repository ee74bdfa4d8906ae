use Rattle.std.proofs.Common.{ap}
use Rattle.std.proofs.lemmas.List.{take_more}
use Rattle.np_report.proofs.CsvLemmas.{escaped-none, escaped-other, escaped-quote}
use Rattle.np_report.proofs.csv_form.put_escaped.Goals as goal
use Rattle.np_report.proofs.csv_form.put_escaped.Goals.{then-byte-eq34+in_ok-push, else-byte-eq34}

pub loop-byte-init : goal.loop-byte-init
loop-byte-init c = escaped-none _

pub loop-byte-preserved : goal.loop-byte-preserved
loop-byte-preserved c =
    rw (take_more c.args.bytes.now c.loop-byte.byte-index 0 c.loop-byte-test.true, c.in_ok-push-2.ensures.items) (elim c.if-byte-eq34.branch [
      | then-byte-eq34+in_ok-push w ↦ rw (ap (λ (line : _). line.items) w.line-is, w.in_ok-push.ensures.items) (escaped-quote _ _ _ _ c.loop-byte.invariant w.if-byte-eq34.true)
      | else-byte-eq34 w ↦ rw (ap (λ (line : _). line.items) w.line-is) (escaped-other _ _ _ _ c.loop-byte.invariant w.if-byte-eq34.false)
    ])
