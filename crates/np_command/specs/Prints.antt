-- What a command leaves of its report, once its inputs are read.
use Rattle.std.specs.Prelude.{◌≡◌, ℕ, List, [], Option, Some, None, Result, Ok, Err, ⊤}
use Rattle.np_io.specs.Prelude.{Rose, TookFront, TookLess}
use Rattle.np_command.specs.Sinks.{SinkTrace, IsKept, TookWhole}
use Rattle.np_command.specs.Types.{CannotRead, CannotWrite, Failure, Fault, NoMemory, Refused, TooLarge, Usage}

-- the fault of a reply, if it is one
abbrev pub fault_in : Result (List ℕ) Fault → Option Fault
fault_in (Ok text) = None
fault_in (Err fault) = Some fault

-- the text of a reply, and none where it is a fault
abbrev pub text_in : Result (List ℕ) Fault → List ℕ
text_in (Ok text) = text
text_in (Err fault) = []

-- there is a text, and the sink took all of it
pub record WroteAll (out : SinkTrace) (reply : Result (List ℕ) Fault) : Type 0 where
  pub text : List ℕ
  pub is : reply ≡ Ok text
  pub took : TookWhole out text

-- there is a text, and the sink took a front of it, since a call on it failed
pub record WroteFront (out : SinkTrace) (reply : Result (List ℕ) Fault) : Type 0 where
  pub text : List ℕ
  pub is : reply ≡ Ok text
  pub took : TookFront out.before out.after text
  pub rose : Rose out.faults_before out.faults_after

-- what was written of a reply, and why no more
abbrev pub Wrote : SinkTrace → Result (List ℕ) Fault → Result ⊤ Failure → Type 0
Wrote out reply (Ok done) = WroteAll out reply
Wrote out reply (Err (Refused fault)) = (reply ≡ Err fault) × IsKept out
Wrote out reply (Err CannotWrite) = WroteFront out reply
Wrote out reply (Err NoMemory) = TookLess out.before out.after (text_in reply)
Wrote out reply (Err Usage) = ⊥
Wrote out reply (Err TooLarge) = ⊥
Wrote out reply (Err (CannotRead name)) = ⊥

-- whether a call failed, whatever else it gives
abbrev pub without_value : {X : Type 0} → Result X Failure → Result ⊤ Failure
without_value (Ok x) = Ok tt
without_value (Err failure) = Err failure
