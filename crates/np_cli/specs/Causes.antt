-- Why a run ends as it does, to the byte.
use Rattle.std.specs.Prelude.{◌≡◌, ℕ, List, false, Some, None, Result, Ok, Err}
use Rattle.np_io.specs.Prelude.{Rose, TookFront, TookLess}
use Rattle.np_cli.specs.Answers.{IsLawfulIn, ending_of, output, refusal}
use Rattle.np_cli.specs.Messages.{message}
use Rattle.np_cli.specs.Runs.{AskedNothing, KnowsBytes, ReadTooMuch, Run, StoppedReading}
use Rattle.np_command.specs.Prelude.{IsKept, Said, SinkTrace, TookWhole}
use Rattle.np_frame.specs.Prelude.{BeganFront, ReadOnce, input_names, is_too_large, names_asked, objects_of}
use Rattle.np_cli.specs.Statuses.{status_of}
use Rattle.np_cli.specs.Types.{CannotRead, CannotWrite, Ending, Failure, Fault, Job, NoMemory, Refused, Status, TooLarge, Usage}

-- the inputs are not too large, and have no fault
pub record IsAccepted (job : Job) (texts : List (List ℕ)) : Type 0 where
  pub fits : is_too_large texts ≡ false
  pub no_fault : refusal job texts ≡ None

-- On these bytes, the sink of the report took the whole text, and the report ends so.
pub record IsReported (run : Run) (job : Job) (ends : Ending) (texts : List (List ℕ)) : Type 0 where
  pub accepted : IsAccepted job texts
  pub took : TookWhole run.out (output run.asked texts)
  pub ended : ends ≡ ending_of job texts
  pub lawful : IsLawfulIn (objects_of job texts)

-- All inputs were read, and the report was written.
pub record ReportedExactly (run : Run) (ends : Ending) : Type 0 where
  pub job : Job
  pub asked : run.asked ≡ Some job
  pub read : ReadOnce run.source (input_names job)
  pub unfailed : run.out.faults_after ≡ run.out.faults_before
  pub told : (texts : List (List ℕ)) → KnowsBytes run texts → IsReported run job ends texts

-- All inputs were read, and have this fault first.
pub record RefusedExactly (run : Run) (fault : Fault) : Type 0 where
  pub job : Job
  pub asked : run.asked ≡ Some job
  pub read : ReadOnce run.source (input_names job)
  pub kept : IsKept run.out
  pub fits : (texts : List (List ℕ)) → KnowsBytes run texts → is_too_large texts ≡ false
  pub found : (texts : List (List ℕ)) → KnowsBytes run texts → refusal job texts ≡ Some fault

-- All inputs were read and accepted, and a call on the sink of the report failed: it took a front of the text.
pub record StoppedExactly (run : Run) : Type 0 where
  pub job : Job
  pub asked : run.asked ≡ Some job
  pub read : ReadOnce run.source (input_names job)
  pub rose : Rose run.out.faults_before run.out.faults_after
  pub accepted : (texts : List (List ℕ)) → KnowsBytes run texts → IsAccepted job texts
  pub front : (texts : List (List ℕ)) → KnowsBytes run texts → TookFront run.out.before run.out.after (output run.asked texts)

-- Memory was refused, at any time before the sink had the whole text. No field says that it was: this holds of every run that
-- began the first of its inputs in their order, and of whose text the sink took less than all.
pub record LackedExactly (run : Run) : Type 0 where
  pub began : BeganFront run.source (names_asked run.asked)
  pub less : (texts : List (List ℕ)) → KnowsBytes run texts → TookLess run.out.before run.out.after (output run.asked texts)

-- Why a run may end so.
abbrev pub Cause : Run → Result Ending Failure → Type 0
Cause run (Ok ends) = ReportedExactly run ends
Cause run (Err Usage) = AskedNothing run
Cause run (Err TooLarge) = ReadTooMuch run
Cause run (Err (Refused fault)) = RefusedExactly run fault
Cause run (Err (CannotRead name)) = StoppedReading run name
Cause run (Err CannotWrite) = StoppedExactly run
Cause run (Err NoMemory) = LackedExactly run

-- Some outcome has its cause, was said on the error sink, and gives the status.
pub record EndsExactly (run : Run) (err : SinkTrace) (status : Status) : Type 0 where
  pub outcome : Result Ending Failure
  pub cause : Cause run outcome
  pub said : Said err (message outcome)
  pub answered : status ≡ status_of outcome
