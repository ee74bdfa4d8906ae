-- Spaces of numbers.
use Rattle.std.specs.Prelude.{ℕ, Bool, ◌&&◌, nat_le}

-- whether a number is from the first to the last, both included
abbrev pub is_between : ℕ → ℕ → ℕ → Bool
is_between first last n = nat_le first n && nat_le n last
