-- The failure of a source.
use Rattle.np_command.specs.declared.failure.Failure.{Failure}
use Rattle.np_command.specs.declared.failure.Failure.TheVariants.{CannotRead, TooLarge, NoMemory}
use Rattle.np_frame.specs.declared.sources.SourceFault.{SourceFault}
use Rattle.np_frame.specs.declared.sources.SourceFault.TheVariants as source

abbrev pub source_failure : SourceFault → Failure
source_failure (source.CannotRead name) = CannotRead name
source_failure source.TooLarge = TooLarge
source_failure source.NoMemory = NoMemory
