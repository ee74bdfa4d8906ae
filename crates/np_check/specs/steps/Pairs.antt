-- Kinds of workloads between which nothing breaks a statement.
use Rattle.std.specs.Prelude.{◌≡◌, ◌&&◌, ◌==◌, ℕ, List, Bool, true, false, None, slice_index}
use Rattle.std.specs.List.{list_any}
use Rattle.np_check.specs.Counterexamples.{counterexample_between}
use Rattle.np_check.specs.Types.{Allow, Deny, EstateLists, Wanted, Work}
use Rattle.np_conns.specs.Prelude.{Conns}
use Rattle.np_fold.specs.Prelude.{folding_of}
use Rattle.np_kinds.specs.Prelude.{IsWorkload}

-- whether a statement wants that no packet is allowed
abbrev pub is_deny : Wanted → Bool
is_deny Allow = false
is_deny Deny = true

-- the kind of a workload
abbrev pub kind_of : EstateLists → ℕ → ℕ
kind_of lists work = slice_index (folding_of lists).kinds work

abbrev pub has_pair : List (ℕ × ℕ) → ℕ → ℕ → Bool
has_pair pairs a b = list_any (λ pair. (a == pair.0) && (b == pair.1)) pairs

-- between workloads of these pairs of kinds no packet breaks the statement
abbrev pub AreSettled : EstateLists → Wanted → Conns → List (ℕ × ℕ) → Type 0
AreSettled lists wanted conns pairs =
    (a b : ℕ) → IsWorkload lists a → IsWorkload lists b → has_pair pairs (kind_of lists a) (kind_of lists b) ≡ true →
    counterexample_between lists wanted conns (Work a) (Work b) ≡ None
