-- What a run promises, in the words of the model. To the byte it stands in Bytes.antt.
use Rattle.std.specs.Prelude.{◌≡◌, ℕ, ◌+◌, ◌^◌, ◌<◌, ◌≤◌, ◌⊎◌, List, true, None, Option, Some, Contains, Err}
use Rattle.np_io.specs.Prelude.{Rose}
use Rattle.np_cli.specs.Messages.{message}
use Rattle.np_cli.specs.Outcomes.{Concludes, Says}
use Rattle.np_cli.specs.Runs.{Run, KnowsBytes}
use Rattle.np_command.specs.Prelude.{IsKept, Said, SinkTrace}
use Rattle.np_frame.specs.Prelude.{BeganFront, is_too_large, names_asked}
use Rattle.np_cli.specs.Statuses.{ending_status}
use Rattle.np_command.specs.declared.failure.Failure.TheVariants as failure
use Rattle.np_cli.specs.Types.{Ending, Job, Status}
use Rattle.np_frame.specs.declared.sources.TheConstants.{SIZE_LIMIT}
use Rattle.np_command.specs.declared.status.Status.TheVariants as status

-- a count did not rise, and does not stand at its end
pub record IsStill (old new : ℕ) : Type 0 where
  pub no_more : new ≤ old
  pub below_end : new + 1 < 2 ^ 64

-- no call for an input that the words ask for was counted as failed
abbrev pub NoInputFailed : Run → Type 0
NoInputFailed run = (name : List ℕ) → Contains (names_asked run.asked) name → IsStill (run.source.faults_before name) (run.source.faults_after name)

-- Where the status is that of a whole report, Done or Violated, and the source tells the inputs, the report says what the job is
-- to say of them.
abbrev pub SaysOfInputs : Run → Status → Type 0
SaysOfInputs run answer = (job : Job) (texts : List (List ℕ)) (ends : Ending) → run.asked ≡ Some job → KnowsBytes run texts → answer ≡ ending_status ends
    → Says job ends texts run.out

-- Inputs with too many bytes are refused for that, and nothing is written to the sink of the report.
abbrev pub RefusesTooLarge : Run → SinkTrace → Status → Type 0
RefusesTooLarge run err answer = (job : Job) (texts : List (List ℕ)) → run.asked ≡ Some job → KnowsBytes run texts → is_too_large texts ≡ true
    → NoInputFailed run
    → ((answer ≡ status.Refused) × IsKept run.out × Said err (message (Err failure.TooLarge))) ⊎ (answer ≡ status.NoMemory)

-- Where more bytes were handed out than inputs may have, there is no other answer, whatever the source tells.
abbrev pub RefusesMore : Run → SinkTrace → Status → Type 0
RefusesMore run err answer = run.source.handed_before + SIZE_LIMIT < run.source.handed_after
    → ((answer ≡ status.Refused) × IsKept run.out × Said err (message (Err failure.TooLarge))) ⊎ (answer ≡ status.NoMemory)

-- The device is at fault only where a count of its own rose: that of an input that the words ask for, or that of
-- the sink of the report.
abbrev pub BlamesDevice : Run → Status → Type 0
BlamesDevice run answer = answer ≡ status.Device
    → ((name : List ℕ) × Contains (names_asked run.asked) name × Rose (run.source.faults_before name) (run.source.faults_after name))
    ⊎ Rose run.out.faults_before run.out.faults_after

-- the words are at fault exactly where they ask for nothing
abbrev pub BlamesWords : Option Job → Status → Type 0
BlamesWords asked answer = (answer ≡ status.Usage → asked ≡ None) × (asked ≡ None → (answer ≡ status.Usage) ⊎ (answer ≡ status.NoMemory))

-- All that is promised of a run that ended with this status, but for its very bytes (`Bytes`) and what it costs (`Counted`).
-- Nothing here ties the status NoMemory to memory that is short: a program that reads nothing, writes no report, says
-- `error: out of memory` and always answers NoMemory keeps every promise. That this one does otherwise is only tested.
pub record Promises (run : Run) (err : SinkTrace) (answer : Status) : Type 0 where
  -- how it ended, and what it left of its inputs and of the report's sink
  pub ends : Concludes run err answer
  -- what a report says of the bytes of the inputs
  pub says : SaysOfInputs run answer
  -- which inputs are too large
  pub refuses_too_large : RefusesTooLarge run err answer
  pub refuses_more : RefusesMore run err answer
  -- who is at fault
  pub words : BlamesWords run.asked answer
  pub device : BlamesDevice run answer
  -- which inputs were begun: those of the job in their order, each once, up to the last one
  pub names : BeganFront run.source (names_asked run.asked)
