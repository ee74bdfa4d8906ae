-- A sink that was let alone took less than all of anything. For WroteLemmas and crates above.
use Rattle.std.proofs.Common.{ℕ, List, Option, sym, subst}
use Rattle.np_io.specs.Prelude.{TookLess}
use Rattle.np_io.proofs.TakenLemmas.{TookLess-none}
use Rattle.np_command.specs.Prelude.{IsKept, SinkTrace}

-- a sink that took nothing took less than all of any text
pub TookLess-kept : (out : SinkTrace) (bytes : List ℕ) → IsKept out → TookLess out.before out.after bytes
TookLess-kept out bytes kept = subst (λ (after : Option (List ℕ)). TookLess out.before after bytes) (sym kept.taken) (TookLess-none out.before bytes)
