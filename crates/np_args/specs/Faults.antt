-- Which fault an error of a command line is.
use Rattle.clap.specs.declared.error.kind.ErrorKind.{ErrorKind}
use Rattle.clap.specs.declared.error.kind.ErrorKind.TheVariants.{OutOfMemory}
use Rattle.np_args.specs.Types.{NoMemory, Usage, WordsFault}

abbrev pub fault_of_kind : ErrorKind → WordsFault
fault_of_kind OutOfMemory = NoMemory
fault_of_kind kind = Usage
