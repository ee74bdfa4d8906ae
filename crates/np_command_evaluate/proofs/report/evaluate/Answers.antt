use Rattle.std.proofs.Common.{refl}
use Rattle.std.proofs.lemmas.Result.{err_from_is_err_and}
use Rattle.np_command.proofs.SinkLemmas.{TookLess-kept}
use Rattle.np_command.specs.Prelude.{sunk, text_in}
use Rattle.np_command_evaluate.proofs.EvaluateLemmas.{wrote-unknown}
use Rattle.np_command_evaluate.proofs.report.evaluate.Goals as goal
use Rattle.np_command_evaluate.specs.Report.{evaluate_reply}

pub returns-in_err-destination : goal.returns-in_err-destination
returns-in_err-destination g c =
    let p = err_from_is_err_and c.from_residual-in_err-destination.result c.from_residual-in_err-destination.ensures.1 in
    rw (p.1, p.2) (wrote-unknown (sunk g.O.Sink.taken g.O.Sink.faults c.args.out.now c.args.out.now) c.args.words.now.from.now c.args.words.now.to.now
    c.args.words.now.spot c.args.folded.now c.in_ok-source.source
    c.in_err-destination.field-0.0 (rw c.estate-estate.ensures.value at c.in_ok-source.ensures.found) (rw c.estate-estate.ensures.value at c.in_err-destination.ensures.found)
    (record { taken = refl; faults = refl }))

pub returns-in_err-from : goal.returns-in_err-from
returns-in_err-from g c =
    let p = err_from_is_err_and c.from_residual-in_err-from.result c.from_residual-in_err-from.ensures.1 in
    rw (p.1, p.2) (TookLess-kept (sunk g.O.Sink.taken g.O.Sink.faults c.args.out.now c.args.out.now)
    (text_in (evaluate_reply c.args.words.now.from.now c.args.words.now.to.now c.args.words.now.spot c.args.folded.now))
    (record { taken = refl; faults = refl }))
