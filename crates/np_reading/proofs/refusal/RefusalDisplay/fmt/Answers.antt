use Rattle.std.proofs.Common.{rules, append_assoc, ◌≡◌, ◌++◌, codes, ℕ}
use Rattle.std.specs.Prelude.{decimal}
use Rattle.np_reading.specs.Prelude.{Duplicate, refusal_text}
use Rattle.np_reading.proofs.refusal.RefusalDisplay.fmt.Goals as goal

-- the text in the order in which its parts are written
duplicate_text : (first second : ℕ) → refusal_text (Duplicate first second) ≡ codes "items " ++ (decimal first ++ (codes " and " ++ (decimal second ++ codes ": Duplicate")))
duplicate_text first second = search (rules, append_assoc)

pub returns-in-Duplicate-clause-writes : goal.returns-in-Duplicate-clause-writes
returns-in-Duplicate-clause-writes g c = rw (c.in-Duplicate.is, duplicate_text) (λ plain ok. c.write-in-Duplicate.ensures.writes plain ok)
