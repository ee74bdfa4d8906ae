-- What is known of a run whose report was written whole. For HeadlineLemmas and SampleLemmas.
use Rattle.std.proofs.Common.{◌≡◌, ℕ, List, Option, None, Some, Result, Ok, Err, refl, subst, ap, ◌∙◌}
use Rattle.np_cli.proofs.PromisesLemmas.{one_job}
use Rattle.np_cli.proofs.RunsLemmas.{output-fits}
use Rattle.np_frame.specs.Prelude.{objects_of}
use Rattle.np_cli.specs.Prelude.{CannotRead, CannotWrite, Cause, Done, Ending, EstateLists, Failure, Fault, IsLawfulIn, Job, KnowsBytes, NoMemory, Refused, ReportNotes, Run, Status, TooLarge, Usage, Violated, ending, ending_in, ending_of, output, printed_text, refusal, reply, reply_in, status_of}
use Rattle.np_command.specs.Prelude.{SinkTrace, TookWhole, fault_in, text_in}
use Rattle.np_command.specs.declared.status.Status.TheVariants as status
use Rattle.np_model.specs.Prelude.{IsLawful}

-- the bytes are those of a lawful estate, the job's reply on it is no fault, the sink took its text, and the report ends so
pub record IsWritten (out : SinkTrace) (job : Job) (texts : List (List ℕ)) (ends : Ending) : Type 0 where
  pub lists : EstateLists
  pub read : objects_of job texts ≡ Ok lists
  pub lawful : IsLawful lists
  pub no_fault : fault_in (reply job texts lists) ≡ None
  pub took : TookWhole out (text_in (reply job texts lists))
  pub ended : ends ≡ ending job texts lists

written-read : (out : SinkTrace) (job : Job) (texts : List (List ℕ)) (ends : Ending) (reads : Result EstateLists Fault) → objects_of job texts ≡ reads → IsLawfulIn reads
    → fault_in (reply_in job texts reads) ≡ None → TookWhole out (text_in (reply_in job texts reads)) → ends ≡ ending_in job texts reads → IsWritten out job texts ends
written-read out job texts ends (Err fault) read lawful no_fault took ended = cc
written-read out job texts ends (Ok lists) read lawful no_fault took ended =
    record { lists = lists; read = read; lawful = lawful; no_fault = no_fault; took = took; ended = ended }

-- a run whose report was written whole wrote the reply of its job
pub written-told : (run : Run) (ends : Ending) (job : Job) (texts : List (List ℕ)) → Cause run (Ok ends) → run.asked ≡ Some job → KnowsBytes run texts → IsWritten run.out job texts ends
unfolding refusal printed_text ending_of
written-told run ends job texts cause is told =
    let same : cause.job ≡ job = one_job run.asked job cause.job is cause.asked in
    let reported = cause.told texts told in
    let none : refusal job texts ≡ None = subst (λ (j : Job). refusal j texts ≡ None) same reported.accepted.no_fault in
    let lawful : IsLawfulIn (objects_of job texts) = subst (λ (j : Job). IsLawfulIn (objects_of j texts)) same reported.lawful in
    let ended : ends ≡ ending_of job texts = subst (λ (j : Job). ends ≡ ending_of j texts) same reported.ended in
    let fits = reported.accepted.fits in
    let took : TookWhole run.out (printed_text job texts) =
    subst (TookWhole run.out) (ap (λ (asked : Option Job). output asked texts) is ∙ output-fits job texts fits) reported.took in
    written-read run.out job texts ends (objects_of job texts) refl lawful none took ended

-- a run that is done ends with notes
pub done-told : (run : Run) (answer : Status) (outcome : Result Ending Failure) (job : Job) (texts : List (List ℕ)) → Cause run outcome → answer ≡ status_of outcome
    → run.asked ≡ Some job → KnowsBytes run texts → answer ≡ status.Done → (notes : ReportNotes) × IsWritten run.out job texts (Done notes)
done-told run answer (Ok (Done notes)) job texts cause answered is told done = (notes, written-told run (Done notes) job texts cause is told)
done-told run answer (Ok Violated) job texts cause answered is told done = cc
done-told run answer (Err Usage) job texts cause answered is told done = cc
done-told run answer (Err TooLarge) job texts cause answered is told done = cc
done-told run answer (Err (Refused fault)) job texts cause answered is told done = cc
done-told run answer (Err (CannotRead name)) job texts cause answered is told done = cc
done-told run answer (Err CannotWrite) job texts cause answered is told done = cc
done-told run answer (Err NoMemory) job texts cause answered is told done = cc
