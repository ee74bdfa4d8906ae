-- What a call that writes bytes piece by piece leaves.
use Rattle.std.specs.Prelude.{ℕ, List, Result, Ok, Err, ⊤}
use Rattle.np_io.specs.Prelude.{Rose, TookFront, TookLess}
use Rattle.np_command.specs.Sinks.{SinkTrace, TookWhole}
use Rattle.np_command.specs.Types.{SinkFailed, WriteFault}
use Rattle.np_command.specs.declared.write_fault.WriteFault.TheVariants.{NoMemory}

-- The bytes were taken whole, or a front of them where the count of faults rose, or for want of memory less than all of them.
abbrev pub Writes : SinkTrace → List ℕ → Result ⊤ WriteFault → Type 0
Writes out bytes (Ok done) = TookWhole out bytes
Writes out bytes (Err SinkFailed) = TookFront out.before out.after bytes × Rose out.faults_before out.faults_after
Writes out bytes (Err NoMemory) = TookLess out.before out.after bytes
