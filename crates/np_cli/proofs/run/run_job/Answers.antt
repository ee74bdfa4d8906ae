use Rattle.std.proofs.Common.{refl}
use Rattle.std.proofs.lemmas.Result.{err_from_is_err_and}
use Rattle.np_cli.proofs.CountsLemmas.{Counted-none, Counted-read}
use Rattle.np_cli.proofs.RunsLemmas.{Cause-from_answers, Cause-unbegun, Cause-unread}
use Rattle.np_cli.proofs.run.run_job.Goals as goal

pub returns-in_err-names : goal.returns-in_err-names
returns-in_err-names g c =
    let p = err_from_is_err_and c.from_residual.result c.from_residual.ensures.1 in
    rw (p.1, p.2) (Cause-unbegun c.args.job.now _ _ (record { faults = refl; handed = refl; began = refl }) (record { taken = refl; faults = refl }), Counted-none _ _ _ _)

pub returns-in_err-texts : goal.returns-in_err-texts
returns-in_err-texts g c =
    let p = err_from_is_err_and c.from_residual-in_err-texts.result c.from_residual-in_err-texts.ensures.1 in
    rw (p.1, p.2) (
      Cause-unread c.args.job.now _ _ c.in_err-texts.field-0.0 (record { taken = refl; faults = refl }) (rw (c.items.ensures, c.in_ok-names.ensures) at c.in_err-texts.ensures.err),
      Counted-none _ _ _ _,
    )

pub returns : goal.returns
returns g c = (
  Cause-from_answers c.args.job.now _ _ _ c.answer.result
      (λ told tells. rw c.deref.ensures.value (c.in_ok-texts.ensures.told told (rw (c.items.ensures, c.in_ok-names.ensures) tells)))
      (rw c.deref.ensures.value c.in_ok-texts.ensures.fits)
      (rw (c.items.ensures, c.in_ok-names.ensures) at c.in_ok-texts.ensures.once)
      c.answer.ensures.answers,
  Counted-read c.args.job.now _ _ _ _ _
      (λ told tells. rw c.deref.ensures.value (c.in_ok-texts.ensures.told told (rw (c.items.ensures, c.in_ok-names.ensures) tells)))
      c.answer.ensures.least
      c.answer.ensures.most,
)
