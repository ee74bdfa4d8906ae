-- What a run leaves of its inputs and of the report's sink, by how it ends.
use Rattle.std.specs.Prelude.{◌≡◌, ◌<◌, ℕ, ◌⊎◌, List, length, false, Some, Result, Ok, Err}
use Rattle.std.specs.Io.KnownBytes.{append_known}
use Rattle.np_io.specs.Prelude.{Rose, TookFront}
use Rattle.np_cli.specs.Messages.{message}
use Rattle.np_cli.specs.Runs.{AskedNothing, KnowsBytes, ReadTooMuch, Run, StoppedReading}
use Rattle.np_frame.specs.Prelude.{BeganFront, ReadOnce, input_names, inputs_of, is_too_large, names_asked}
use Rattle.np_cli.specs.Statuses.{status_of}
use Rattle.np_command.specs.Prelude.{IsKept, Said, SinkTrace, lists_of}
use Rattle.np_command_check.specs.Prelude.{ChecksAll, FindsBroken, RefusesCheck, statement_bytes}
use Rattle.np_command_evaluate.specs.Promise.{EvaluatesAll, RefusesEvaluate}
use Rattle.np_command_explain.specs.Prelude.{ExplainsAll, RefusesExplain}
use Rattle.np_command_exposure.specs.Promise.{ExposesAll, RefusesExposure}
use Rattle.np_command_flatten.specs.Prelude.{FlattensAll, RefusesFlatten}
use Rattle.np_command_list.specs.Prelude.{RefusesList, SaysAll}
use Rattle.np_command_unused.specs.Promise.{ListsUnused}
use Rattle.np_cli.specs.Types.{CannotRead, CannotWrite, Check, Done, Ending, EstateLists, Evaluate, Explain, Exposure, Failure, Fault, Flatten, Job, List as ListJob, NoMemory, Refused, Sample, Status, TooLarge, Unused, Usage, Violated}

-- ---- what a report says, and why there is none

-- What the report of a job says of the bytes that it read, where the sink took it whole and it ends so. `sample` reads nothing.
abbrev pub Says : Job → Ending → List (List ℕ) → SinkTrace → Type 0
Says (ListJob format report controller focus side files) (Done notes) texts out = SaysAll out format report controller focus side texts
Says (Explain from to files) (Done notes) texts out = ExplainsAll out from to texts
Says (Exposure workload format files) (Done notes) texts out = ExposesAll out workload format texts
Says (Evaluate from to proto port files) (Done notes) texts out = EvaluatesAll out from to (record { proto = proto; port = port }) texts
Says (Unused files) (Done notes) texts out = ListsUnused out texts
Says (Check statement files) (Done notes) texts out = ChecksAll out texts
Says (Check statement files) Violated texts out = FindsBroken out texts
Says (Flatten files) (Done notes) texts out = FlattensAll out texts
Says (Sample n) (Done notes) texts out = Unit {0}
Says job Violated texts out = ⊥

-- why a job refuses an estate that was read, where it may: `unused` refuses none
abbrev pub RefusesFor : Job → List (List ℕ) → EstateLists → Fault → Type 0
RefusesFor (ListJob format report controller focus side files) texts lists fault = RefusesList controller focus lists fault
RefusesFor (Explain from to files) texts lists fault = RefusesExplain from to lists fault
RefusesFor (Exposure workload format files) texts lists fault = RefusesExposure workload lists fault
RefusesFor (Evaluate from to proto port files) texts lists fault = RefusesEvaluate from to lists fault
RefusesFor (Check statement files) texts lists fault = RefusesCheck (statement_bytes texts) lists fault
RefusesFor (Flatten files) texts lists fault = RefusesFlatten lists fault
RefusesFor job texts lists fault = ⊥

-- the inputs are read to no estate for this fault, or the job refuses their estate for it; of `sample`, which has none, nothing is said
abbrev pub HaveFault : Job → List (List ℕ) → Fault → Type 0
HaveFault (Sample n) texts fault = Unit {0}
HaveFault job texts fault = (lists_of (inputs_of job texts) ≡ Err fault)
    ⊎ ((lists : EstateLists) × (lists_of (inputs_of job texts) ≡ Ok lists) × RefusesFor job texts lists fault)

-- the notes on a report that is done count what was left out of the estate; `sample` reads nothing
abbrev pub NotesLeftOut : Job → EstateLists → Ending → Type 0
NotesLeftOut job lists Violated = Unit {0}
NotesLeftOut (Sample n) lists (Done notes) = Unit {0}
NotesLeftOut job lists (Done notes) = notes.left_out ≡ lists.notes

-- ---- a part of a report

-- the sink as it would be had it taken this text whole
abbrev pub taking : SinkTrace → List ℕ → SinkTrace
taking out text = record { before = out.before; after = append_known out.before text; faults_before = out.faults_before; faults_after = out.faults_before }

-- The bytes are not too large, and the text is a report on them: a sink that takes it whole has what the job is to say.
pub record IsReportOn (job : Job) (texts : List (List ℕ)) (out : SinkTrace) (text : List ℕ) : Type 0 where
  pub fits : is_too_large texts ≡ false
  pub ends : Ending
  pub says : Says job ends texts (taking out text)

-- ---- outcomes

-- All inputs of the job that the words ask for were read, and they are not too large.
pub record ReadAll (run : Run) : Type 0 where
  pub job : Job
  pub asked : run.asked ≡ Some job
  pub read : ReadOnce run.source (input_names job)
  pub fits : (texts : List (List ℕ)) → KnowsBytes run texts → is_too_large texts ≡ false

-- All inputs were read, and the report was written whole.
pub record Reported (run : Run) (ends : Ending) : Type 0 where
  pub inputs : ReadAll run
  pub unfailed : run.out.faults_after ≡ run.out.faults_before
  pub notes : (texts : List (List ℕ)) (lists : EstateLists) → KnowsBytes run texts → lists_of (inputs_of inputs.job texts) ≡ Ok lists → NotesLeftOut inputs.job lists ends

-- All inputs were read, and have this fault. Nothing was written.
pub record RefusedFor (run : Run) (fault : Fault) : Type 0 where
  pub inputs : ReadAll run
  pub kept : IsKept run.out
  pub found : (texts : List (List ℕ)) → KnowsBytes run texts → HaveFault inputs.job texts fault

-- All inputs were read, and a call on the sink of the report failed: it took a front of a report on them.
pub record StoppedWriting (run : Run) : Type 0 where
  pub inputs : ReadAll run
  pub rose : Rose run.out.faults_before run.out.faults_after
  pub front : (texts : List (List ℕ)) → KnowsBytes run texts → (text : List ℕ) × IsReportOn inputs.job texts run.out text × TookFront run.out.before run.out.after text

-- Memory was refused. No field says that it was: this holds of every run that began the first of its inputs in their order, and of
-- which the sink took nothing, or less than all of a report, unless that is empty.
pub record LackedMemory (run : Run) : Type 0 where
  pub began : BeganFront run.source (names_asked run.asked)
  pub less : (texts : List (List ℕ)) → KnowsBytes run texts → (run.out.after ≡ run.out.before)
      ⊎ ((job : Job) × (text : List ℕ) × (run.asked ≡ Some job) × IsReportOn job texts run.out text
      × (took : TookFront run.out.before run.out.after text) × (0 < length text → 0 < length took.rest))

-- What a run that ends so leaves.
abbrev pub Leaves : Run → Result Ending Failure → Type 0
Leaves run (Ok ends) = Reported run ends
Leaves run (Err Usage) = AskedNothing run
Leaves run (Err TooLarge) = ReadTooMuch run
Leaves run (Err (Refused fault)) = RefusedFor run fault
Leaves run (Err (CannotRead name)) = StoppedReading run name
Leaves run (Err CannotWrite) = StoppedWriting run
Leaves run (Err NoMemory) = LackedMemory run

-- Some outcome left this, was said on the error sink, and gives the status.
pub record Concludes (run : Run) (err : SinkTrace) (status : Status) : Type 0 where
  pub outcome : Result Ending Failure
  pub left : Leaves run outcome
  pub said : Said err (message outcome)
  pub answered : status ≡ status_of outcome
