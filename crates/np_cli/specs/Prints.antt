-- What a job leaves of its report, once its inputs are read.
use Rattle.std.specs.Prelude.{◌≡◌, ℕ, List, Result, Ok, Err}
use Rattle.np_frame.specs.Prelude.{objects_of}
use Rattle.np_cli.specs.Answers.{IsLawfulIn, ending_in, reply_in}
use Rattle.np_command.specs.Prelude.{SinkTrace, Wrote, WroteAll}
use Rattle.np_cli.specs.Types.{Ending, Failure, Job}

-- the reply of a job by the bytes that it read, and how its report ends
abbrev pub Answers : Job → List (List ℕ) → SinkTrace → Result Ending Failure → Type 0
Answers job texts out (Ok ends) = WroteAll out (reply_in job texts (objects_of job texts)) × (ends ≡ ending_in job texts (objects_of job texts)) × IsLawfulIn (objects_of job texts)
Answers job texts out (Err failure) = Wrote out (reply_in job texts (objects_of job texts)) (Err failure)
