-- Numbers of TCP ports to which routes lead.
use Rattle.std.specs.Prelude.{ℕ, List, Bool, ◌==◌}
use Rattle.std.specs.List.{list_any}

-- whether a number is among them
abbrev pub has_target : List ℕ → ℕ → Bool
has_target targets number = list_any (λ target. target == number) targets
