use Rattle.std.proofs.Common.{refl}
use Rattle.std.proofs.lemmas.Result.{err_from_is_err_and}
use Rattle.np_command.proofs.SinkLemmas.{TookLess-kept}
use Rattle.np_command.specs.Prelude.{sunk, text_in}
use Rattle.np_command_explain.proofs.report.explain.Goals as goal
use Rattle.np_command_explain.specs.Prelude.{explain_reply}

pub returns-in_err-from : goal.returns-in_err-from
returns-in_err-from g c =
    let p = err_from_is_err_and c.from_residual-in_err-from.result c.from_residual-in_err-from.ensures.1 in
    rw (p.1, p.2) (TookLess-kept (sunk g.O.Sink.taken g.O.Sink.faults c.args.out.now c.args.out.now) (text_in (explain_reply c.args.from.now c.args.to.now c.args.folded.now))
    (record { taken = refl; faults = refl }))
