-- The maximal runs of ports that pass a test, found by walking over the ports.
use Rattle.std.specs.Prelude.{ℕ, zero, suc, ◌+◌, List, [], ◌∷◌, Bool, if◌then◌else◌, ◌==◌}
use Rattle.np_conns.specs.Types.{Range}

-- a port put before the runs of the ports above it: it lengthens the first run where it touches it, else it is a run of its own
abbrev pub onto_runs : ℕ → List (Range ℕ) → List (Range ℕ)
onto_runs port [] = record { lo = port; hi = port } ∷ []
onto_runs port (run ∷ above) = if run.lo == port + 1 then record { lo = port; hi = run.hi } ∷ above else record { lo = port; hi = port } ∷ run ∷ above

-- the runs among `count` ports from `first` on
unfoldable pub runs_from : (ℕ → Bool) → ℕ → ℕ → List (Range ℕ)
runs_from passes first zero = []
runs_from passes first (suc count) = let above = runs_from passes (first + 1) count in if passes first then onto_runs first above else above

-- the runs among all ports, which are 1 to 65535
abbrev pub runs : (ℕ → Bool) → List (Range ℕ)
runs passes = runs_from passes 1 65535
