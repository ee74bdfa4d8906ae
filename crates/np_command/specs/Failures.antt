-- The failures of a run, by what failed.
use Rattle.np_command.specs.Types.{CannotWrite, Failure, Inputs, NoMemory, Refused, TooManyWorkloads, Usage, WriteFault}
use Rattle.np_fold.specs.declared.fold_fault.FoldFault.{FoldFault}
use Rattle.np_fold.specs.declared.fold_fault.FoldFault.TheVariants as fold
use Rattle.np_reading.specs.declared.refusal.Refusal.{Refusal}
use Rattle.np_reading.specs.declared.refusal.Refusal.TheVariants as why
use Rattle.np_command.specs.declared.write_fault.WriteFault.TheVariants as write
use Rattle.np_args.specs.declared.words_fault.WordsFault.{WordsFault}
use Rattle.np_args.specs.declared.words_fault.WordsFault.TheVariants as words

abbrev pub words_failure : WordsFault → Failure
words_failure words.Usage = Usage
words_failure words.NoMemory = NoMemory

-- want of memory is no fault of the inputs
abbrev pub refusal_failure : Refusal → Failure
refusal_failure why.NoMemory = NoMemory
refusal_failure refusal = Refused (Inputs refusal)

abbrev pub fold_failure : FoldFault → Failure
fold_failure (fold.TooManyWorkloads count) = Refused (TooManyWorkloads count)
fold_failure fold.NoMemory = NoMemory

abbrev pub write_failure : WriteFault → Failure
write_failure write.SinkFailed = CannotWrite
write_failure write.NoMemory = NoMemory
