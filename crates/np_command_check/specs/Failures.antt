-- The failures of `check`, by the faults of its statements.
use Rattle.np_command.specs.declared.failure.Failure.{Failure}
use Rattle.np_command.specs.declared.failure.Failure.TheVariants.{NoMemory, Refused}
use Rattle.np_command_check.specs.Types.{BadStatement, EndFault, UnknownEnd}
use Rattle.np_statements.specs.declared.end_fault.EndFault.TheVariants as end
use Rattle.np_statements.specs.declared.file_fault.FileFault.{FileFault}
use Rattle.np_statements.specs.declared.file_fault.FileFault.TheVariants as file

abbrev pub file_failure : FileFault → Failure
file_failure (file.BadStatement line) = Refused (BadStatement line)
file_failure file.NoMemory = NoMemory

abbrev pub end_failure : EndFault → Failure
end_failure (end.UnknownEnd name) = Refused (UnknownEnd name)
end_failure end.NoMemory = NoMemory
