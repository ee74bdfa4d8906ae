use Rattle.std.proofs.Common.{Result, Err, map, refl, subst, sym}
use Rattle.std.proofs.lemmas.Result.{err_from_is_err_and}
use Rattle.np_cli.proofs.SampleLemmas.{countable}
use Rattle.np_command.proofs.WroteLemmas.{Wrote-refused}
use Rattle.np_frame.specs.Prelude.{objects_of}
use Rattle.np_cli.specs.Prelude.{EstateLists, Fault, NoMemory, reply_in}
use Rattle.np_command.specs.Prelude.{Wrote, sunk}
use Rattle.np_cli.proofs.run.answer.Goals as goal

pub returns-in_err-folded-clause-answers : goal.returns-in_err-folded-clause-answers
returns-in_err-folded-clause-answers g c =
    let p = err_from_is_err_and c.from_residual.result c.from_residual.ensures.1 in
    rw (p.1, p.2) (Wrote-refused _ (reply_in c.args.job.now (map (λ text. text.items) c.args.texts.now)) _ c.in_err-folded.field-0.0 (λ fault. refl) c.in_err-folded.ensures
    (record { taken = refl; faults = refl }))

pub returns-in_err-notes-clause-answers : goal.returns-in_err-notes-clause-answers
returns-in_err-notes-clause-answers g c =
    let p = err_from_is_err_and c.from_residual-in_err-notes.result c.from_residual-in_err-notes.ensures.1 in
    rw (p.1, p.2) (Wrote-refused (sunk g.O.Sink.taken g.O.Sink.faults c.args.out.now c.args.out.now) (reply_in c.args.job.now (map (λ text. text.items) c.args.texts.now))
    (objects_of c.args.job.now (map (λ text. text.items) c.args.texts.now)) NoMemory (λ fault. refl) tt (record { taken = refl; faults = refl }))

pub returns-in_err-holds-clause-answers : goal.returns-in_err-holds-clause-answers
returns-in_err-holds-clause-answers g c =
    let p = err_from_is_err_and c.from_residual-in_err-holds.result c.from_residual-in_err-holds.ensures.1 in
    rw (p.1, p.2) (subst (λ (reads : Result EstateLists Fault). Wrote (sunk g.O.Sink.taken g.O.Sink.faults c.args.out.now c.reply.new.out)
    (reply_in c.args.job.now (map (λ text. text.items) c.args.texts.now) reads) (Err c.in_err-holds.field-0.0)) (sym c.in_ok-folded.ensures) c.in_err-holds.ensures.wrote)

pub reply-requires : goal.reply-requires
reply-requires g c = countable c.args.job.now (map (λ text. text.items) c.args.texts.now) _ c.requires c.in_ok-folded.ensures
