-- What the program answers on files in memory.
use Rattle.std.specs.Prelude.{◌≡◌, ℕ, List, [], Option, Some, None, Result, Ok, Err, if◌then◌else◌, map}
use Rattle.np_io.specs.Prelude.{bytes_of}
use Rattle.np_io.specs.declared.held.Held.{Held}
use Rattle.np_command.specs.Prelude.{SinkTrace}
use Rattle.np_frame.specs.Prelude.{is_too_large, names_asked}
use Rattle.np_cli.specs.Answers.{ending_of, output, refusal}
use Rattle.np_cli.specs.Messages.{message}
use Rattle.np_cli.specs.Outcomes.{HaveFault, Says}
use Rattle.np_cli.specs.Statuses.{ending_status, status_of}
use Rattle.np_cli.specs.Types.{Ending, Failure, Fault, Job, Refused, TooLarge, Usage}
use Rattle.np_cli.specs.declared.in_memory.Answered.{Answered}
use Rattle.std.specs.Option.{option_map_or}

-- the bytes of what the words ask for, in order
abbrev pub texts_held : List Held → Option Job → List (List ℕ)
texts_held files asked = map (bytes_of files) (names_asked asked)

-- How a run on these bytes ends, where memory suffices: words that ask for nothing, too many bytes and the first fault end it, in this
-- order, and else its report does.
abbrev pub outcome_on : Option Job → List (List ℕ) → Result Ending Failure
outcome_on None texts = Err Usage
outcome_on (Some job) texts = if is_too_large texts then Err TooLarge else option_map_or (λ fault. Err (Refused fault)) (refusal job texts) (Ok (ending_of job texts))

-- what is answered then: there is no report but that of a run that ends with it
abbrev pub answer_to : Option Job → List (List ℕ) → Answered
answer_to asked texts = record {
  report = output asked texts;
  said = message (outcome_on asked texts);
  status = status_of (outcome_on asked texts);
}

-- a sink that took this report alone
abbrev pub holding : List ℕ → SinkTrace
holding report = record { before = Some []; after = Some report; faults_before = 0; faults_after = 0 }

-- What an answer says of the bytes, in the words of the model.
pub record SaysOfTexts (asked : Option Job) (texts : List (List ℕ)) (answered : Answered) : Type 0 where
  -- where the status is that of a whole report, this says what the job is to say
  pub says : (job : Job) (ends : Ending) → asked ≡ Some job → answered.status ≡ ending_status ends → Says job ends texts (holding answered.report)
  -- where a fault is told, the bytes have it
  pub refuses : (job : Job) (fault : Fault) → asked ≡ Some job → outcome_on asked texts ≡ Err (Refused fault) → HaveFault job texts fault
