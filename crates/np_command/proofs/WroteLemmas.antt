-- What was written of a reply. For crates above.
use Rattle.std.proofs.Common.{◌≡◌, ℕ, List, Result, Err, ap, ◌∙◌}
use Rattle.np_command.proofs.SinkLemmas.{TookLess-kept}
use Rattle.np_command.specs.Prelude.{CannotRead, CannotWrite, Failure, Fault, IsKept, NoMemory, Refused, Refuses, SinkTrace, TooLarge, Usage, Wrote, text_in}
use Rattle.np_command.specs.declared.write_fault.WriteFault.TheVariants as unwritten

-- Where a step finds a fault, nothing is written of a reply that has that fault then.
pub Wrote-refused : {X : Type 0} (out : SinkTrace) (reply : Result X Fault → Result (List ℕ) Fault) (found : Result X Fault) (failure : Failure) → ((fault : Fault) → reply (Err fault) ≡ Err fault) →
    Refuses failure found → IsKept out → Wrote out (reply found) (Err failure)
Wrote-refused out reply found (Refused fault) stands refuses kept = (ap reply refuses ∙ stands fault, kept)
Wrote-refused out reply found NoMemory stands refuses kept = TookLess-kept out (text_in (reply found)) kept
Wrote-refused out reply found Usage stands refuses kept = absurd refuses
Wrote-refused out reply found TooLarge stands refuses kept = absurd refuses
Wrote-refused out reply found (CannotRead name) stands refuses kept = absurd refuses
Wrote-refused out reply found CannotWrite stands refuses kept = absurd refuses
