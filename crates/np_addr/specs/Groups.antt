-- Groups that were read.
use Rattle.std.specs.Prelude.{ℕ, nat_le, List, length, Option, Some, None, if◌then◌else◌}

-- no more groups than an address has
abbrev pub at_most_eight : Option (List ℕ) → Option (List ℕ)
at_most_eight None = None
at_most_eight (Some groups) = if nat_le (length groups) 8 then Some groups else None
