-- What passes within a workload, and between two.
use Rattle.std.specs.Prelude.{◌≢◌, ℕ, List, [], ◌∷◌, if◌then◌else◌}
use Rattle.np_conns.specs.Prelude.{Conns}
use Rattle.np_flatten.specs.Types.{EstateLists}
use Rattle.np_fold.specs.Prelude.{folding_of}
use Rattle.np_flatten.specs.Faults.{set_of}
use Rattle.np_kinds.specs.Prelude.{IsWorkload, is_alone}

-- what passes from one workload to another, where it is defined
abbrev pub own_set : EstateLists → ℕ → ℕ → List Conns
own_set lists source destination = if is_alone (folding_of lists) source destination then [] else set_of lists source destination ∷ []

-- two workloads
abbrev pub AreTwo : EstateLists → ℕ → ℕ → Type 0
AreTwo lists a b = IsWorkload lists a × IsWorkload lists b × (a ≢ b)
