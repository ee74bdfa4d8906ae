-- The status of each outcome.
use Rattle.std.specs.Prelude.{Result, Ok, Err}
use Rattle.np_cli.specs.Types.{Ending, Failure, Status}
use Rattle.np_cli.specs.declared.outcome.Ending.TheVariants as ending
use Rattle.np_command.specs.declared.status.Status.TheVariants as status
use Rattle.np_command.specs.Prelude.{failure_status}

abbrev pub ending_status : Ending → Status
ending_status (ending.Done notes) = status.Done
ending_status ending.Violated = status.Violated

abbrev pub status_of : Result Ending Failure → Status
status_of (Ok ends) = ending_status ends
status_of (Err failure) = failure_status failure
