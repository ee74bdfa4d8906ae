-- Which bytes a run writes: a function of the bytes of its inputs.
use Rattle.std.specs.Prelude.{◌≡◌, ◌≢◌, ℕ, ◌<◌, ◌≤◌, ◌⊎◌, List, [], length, false, Some, Ok, Err}
use Rattle.np_cli.specs.Answers.{ending_of, output, refusal}
use Rattle.np_cli.specs.Causes.{EndsExactly, IsAccepted}
use Rattle.np_cli.specs.Messages.{message}
use Rattle.np_cli.specs.Promises.{IsStill, NoInputFailed}
use Rattle.np_cli.specs.Runs.{Run, KnowsBytes}
use Rattle.np_command_sample.specs.Prelude.{CountsAll}
use Rattle.np_command.specs.Prelude.{IsKept, Said, SinkTrace, TookWhole}
use Rattle.np_frame.specs.Prelude.{is_too_large}
use Rattle.np_cli.specs.Statuses.{ending_status}
use Rattle.np_command.specs.declared.failure.Failure.TheVariants as failure
use Rattle.np_cli.specs.Types.{Fault, Job, Sample as SampleJob, Status}
use Rattle.np_command.specs.declared.status.Status.TheVariants as status

-- Accepted inputs that the source tells, with no failing call, are answered with the whole text, with the status of how it
-- ends and with what is then said, or for want of memory.
abbrev pub Completes : Run → SinkTrace → Status → Type 0
Completes run err answer = (job : Job) (texts : List (List ℕ)) → run.asked ≡ Some job → KnowsBytes run texts → IsAccepted job texts
    → NoInputFailed run → IsStill run.out.faults_before run.out.faults_after
    → ((answer ≡ ending_status (ending_of job texts)) × TookWhole run.out (output run.asked texts) × Said err (message (Ok (ending_of job texts)))) ⊎ (answer ≡ status.NoMemory)

-- Where the sink of the report tells what it took, and took the whole of a report that is not empty, the answer is not want of
-- memory.
abbrev pub AcknowledgesReport : Run → Status → Type 0
AcknowledgesReport run answer = (texts : List (List ℕ)) (before : List ℕ) → KnowsBytes run texts → run.out.before ≡ Some before
    → 0 < length (output run.asked texts) → TookWhole run.out (output run.asked texts) → answer ≢ status.NoMemory

-- Inputs with a fault are refused for the one that stands first, which is that of `refusal`, and nothing is written to
-- the sink of the report.
abbrev pub RefusesFaults : Run → SinkTrace → Status → Type 0
RefusesFaults run err answer = (job : Job) (texts : List (List ℕ)) (fault : Fault) → run.asked ≡ Some job → KnowsBytes run texts → is_too_large texts ≡ false → refusal job texts ≡ Some fault
    → NoInputFailed run
    → ((answer ≡ status.Refused) × IsKept run.out × Said err (message (Err (failure.Refused fault)))) ⊎ (answer ≡ status.NoMemory)

-- A sample is accepted by its words alone; where `sample` is done, its report counts the rows of the table of the sample; and it is
-- refused for nothing but words.
abbrev pub SaysCounts : Run → Status → Type 0
SaysCounts run answer = (n : ℕ) → n ≤ 1000 → run.asked ≡ Some (SampleJob n)
    → IsAccepted (SampleJob n) [] × (answer ≡ status.Done → CountsAll run.out n) × (answer ≢ status.Refused)

-- Of a run that ended with this status, the text of its report, the fault that it names and the notes that it says are those of
-- `output`, `refusal` and `ending_of`. A program that hands over a whole report does not answer NoMemory then.
pub record Bytes (run : Run) (err : SinkTrace) (answer : Status) : Type 0 where
  pub ends : EndsExactly run err answer
  -- where the source tells its bytes and no call failed, the answer is determined, but for want of memory, which does not come
  -- once the sink has the whole report
  pub completes : Completes run err answer
  pub acknowledges : AcknowledgesReport run answer
  pub refuses_faults : RefusesFaults run err answer
  -- what `sample` says
  pub counts : SaysCounts run answer
