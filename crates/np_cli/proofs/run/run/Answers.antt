use Rattle.std.proofs.Common.{Err, ap, refl}
use Rattle.std.proofs.lemmas.Result.{err_from_is_err_and}
use Rattle.np_cli.proofs.CountsLemmas.{Counted-none}
use Rattle.np_cli.proofs.RunsLemmas.{Cause-asked, Cause-words}
use Rattle.np_cli.proofs.run.run.Goals as goal

pub returns-in_err-job-clause-ran : goal.returns-in_err-job-clause-ran
returns-in_err-job-clause-ran g c =
    let p = err_from_is_err_and c.from_residual.result c.from_residual.ensures.1 in
    rw (p.1, p.2) (
      Cause-words _ _ _ c.in_err-job.field-0.0 (λ usage. c.in_err-job.ensures.usage (ap Err usage)) (record { faults = refl; handed = refl; began = refl })
          (record { taken = refl; faults = refl }),
      Counted-none _ _ _ _,
    )

pub returns-clause-ran : goal.returns-clause-ran
returns-clause-ran g c = rw c.in_ok-job.ensures.job c.run_job.ensures

pub returns-clause-usage : goal.returns-clause-usage
returns-clause-usage g c = λ usage. absurd (Cause-asked _ _ _ c.run_job.result c.run_job.ensures.0 usage)
