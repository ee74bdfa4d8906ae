-- What is said of a run on the error sink.
use Rattle.std.specs.Prelude.{ℕ, List, [], Result, Ok, Err}
use Rattle.np_cli.specs.Types.{Done, Ending, Failure, Violated}
use Rattle.np_frame.specs.Prelude.{failure_text, notes_text}

-- the notes of a report that is done, and nothing where a statement does not hold
abbrev pub ending_text : Ending → List ℕ
ending_text (Done notes) = notes_text notes
ending_text Violated = []

-- what is said of a report, or the line of a failure
abbrev pub message : Result Ending Failure → List ℕ
message (Ok ends) = ending_text ends
message (Err failure) = failure_text failure
