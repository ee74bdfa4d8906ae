-- Values that may be missing.
use Rattle.std.specs.Prelude.{ℕ, List, length, ◌==◌, if◌then◌else◌, Option, Some, None}

-- the empty text counts as missing
abbrev pub unless_empty : List ℕ → Option (List ℕ)
unless_empty s = if length s == 0 then None else Some s
