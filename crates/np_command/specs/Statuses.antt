-- The statuses of failures, and their codes.
use Rattle.std.specs.Prelude.{ℕ}
use Rattle.np_command.specs.Types.{CannotRead, CannotWrite, Failure, NoMemory, Refused, TooLarge, Usage}
use Rattle.np_command.specs.declared.status.Status.{Status}
use Rattle.np_command.specs.declared.status.Status.TheVariants as status

abbrev pub failure_status : Failure → Status
failure_status Usage = status.Usage
failure_status (CannotRead name) = status.Device
failure_status TooLarge = status.Refused
failure_status (Refused fault) = status.Refused
failure_status CannotWrite = status.Device
failure_status NoMemory = status.NoMemory

-- the exit code of a status
abbrev pub code_of : Status → ℕ
code_of status.Done = 0
code_of status.Refused = 1
code_of status.Usage = 2
code_of status.Device = 3
code_of status.NoMemory = 4
code_of status.Violated = 5
