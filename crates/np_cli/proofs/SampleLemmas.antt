-- A sample, and the rows of its table as they are counted. For `answer` and `np_main`.
use Rattle.std.proofs.Common.{◌≡◌, ℕ, ◌≤◌, List, [], ◌∷◌, None, Some, Result, Ok, Err, refl, ap, sym, subst}
use Rattle.std.proofs.lemmas.Bool.{both_ways}
use Rattle.np_cli.proofs.DoneLemmas.{done-told}
use Rattle.np_cli.proofs.PromisesLemmas.{no_fault, one_job}
use Rattle.np_cli.specs.Prelude.{CannotRead, CannotWrite, Cause, Done, Ending, EstateLists, Failure, IsCountable, Job, KnowsBytes, NoMemory, Refused, Run, Sample as SampleJob, SaysCounts, Status, TooLarge, Usage, Violated, refusal, reply, status_of}
use Rattle.np_command.specs.Prelude.{lists_of}
use Rattle.np_command_sample.specs.Prelude.{CountsAll, HasFewRows, sample_estate}
use Rattle.np_frame.specs.Prelude.{AreTold, names_asked, objects_of}
use Rattle.np_command.specs.declared.status.Status.TheVariants as status
use Rattle.np_command_sample.proofs.RowCountLemmas.{length-rows-sample}
use Rattle.np_sample.specs.Prelude.{sample_text}
use Rattle.np_args.specs.Prelude.{IsWell}
use Rattle.np_args.specs.declared.job.Job.TheVariants as jobs
use Rattle.np_command_sample.proofs.PromiseLemmas.{lists_of-sample, one_estate, promised}

-- ---- counting

-- ---- what a sample says

-- what a job of few pods says can be counted
pub countable : (job : Job) (texts : List (List ℕ)) (lists : EstateLists) → IsWell job → objects_of job texts ≡ Ok lists → IsCountable job lists
countable (SampleJob n) texts lists well read =
    subst HasFewRows (one_estate (sample_estate n) lists (lists_of (sample_text n ∷ [])) (lists_of-sample n well.1) read) (length-rows-sample n None well.1)
countable (jobs.List format report controller focus side files) texts lists well read = tt
countable (jobs.Explain from to files) texts lists well read = tt
countable (jobs.Exposure workload format files) texts lists well read = tt
countable (jobs.Evaluate from to proto port files) texts lists well read = tt
countable (jobs.Unused files) texts lists well read = tt
countable (jobs.Check statement files) texts lists well read = tt
countable (jobs.Flatten files) texts lists well read = tt

-- ---- what is said

-- no bytes are read
tells_nothing : (run : Run) (n : ℕ) → run.asked ≡ Some (SampleJob n) → KnowsBytes run []
tells_nothing run n is = subst (λ (names : List (List ℕ)). AreTold run.source.holds run.source.left names []) (sym (ap names_asked is)) tt

says-counts : (run : Run) (answer : Status) (outcome : Result Ending Failure) (n : ℕ) → Cause run outcome → answer ≡ status_of outcome → n ≤ 1000 → run.asked ≡ Some (SampleJob n) →
    answer ≡ status.Done → CountsAll run.out n
unfolding reply
says-counts run answer outcome n cause answered few is done =
    let told_by = (done-told run answer outcome (SampleJob n) [] cause answered is (tells_nothing run n is) done).1 in
    promised run.out n told_by.lists few told_by.read told_by.took

no_refusal : (n : ℕ) → n ≤ 1000 → refusal (SampleJob n) [] ≡ None
unfolding refusal reply
no_refusal n few = rw (lists_of-sample n few) refl

never-refused : (run : Run) (answer : Status) (outcome : Result Ending Failure) (n : ℕ) → Cause run outcome → answer ≡ status_of outcome → n ≤ 1000 → run.asked ≡ Some (SampleJob n) →
    answer ≡ status.Refused → ⊥
never-refused run answer (Ok (Done notes)) n cause answered few is refused = cc
never-refused run answer (Ok Violated) n cause answered few is refused = cc
never-refused run answer (Err Usage) n cause answered few is refused = cc
never-refused run answer (Err TooLarge) n cause answered few is refused = both_ways _ refl (cause.over.large [] (tells_nothing run n is))
never-refused run answer (Err (Refused fault)) n cause answered few is refused =
    let same : cause.job ≡ SampleJob n = one_job run.asked (SampleJob n) cause.job is cause.asked in
    let found : refusal (SampleJob n) [] ≡ Some fault = subst (λ (j : Job). refusal j [] ≡ Some fault) same (cause.found [] (tells_nothing run n is)) in
    no_fault (refusal (SampleJob n) []) fault (no_refusal n few) found
never-refused run answer (Err (CannotRead name)) n cause answered few is refused = cc
never-refused run answer (Err CannotWrite) n cause answered few is refused = cc
never-refused run answer (Err NoMemory) n cause answered few is refused = cc

pub says_counts : (run : Run) (answer : Status) (outcome : Result Ending Failure) → Cause run outcome → answer ≡ status_of outcome → SaysCounts run answer
says_counts run answer outcome cause answered = λ n few is. (
  record { fits = refl; no_fault = no_refusal n few },
  λ done. says-counts run answer outcome n cause answered few is done,
  λ refused.
      never-refused run answer outcome n cause answered few is refused,
)
