-- Ends that words name. For crates above.
use Rattle.std.proofs.Common.{◌≡◌, ℕ, List, [], Some, ◌<◌, length, get_or, None}
use Rattle.std.proofs.lemmas.List.Quantifiers.{position-Some}
use Rattle.std.specs.Str.{bytes_eq}
use Rattle.std.proofs.lemmas.Slice.Eq.{bytes_eq-Decides}
use Rattle.np_command.specs.Prelude.{EstateLists, Fault}
use Rattle.np_fold.specs.Prelude.{Workload, folding_of, number_named, workloads_of}
use Rattle.np_kinds.specs.Prelude.{IsWorkload}

abbrev pub no_workload : Workload
no_workload = record { name = []; members = [] }

-- what has a name is a workload
pub named_workload : (lists : EstateLists) (name : List ℕ) (workload : ℕ) → number_named (folding_of lists) name ≡ Some workload → IsWorkload lists workload
named_workload lists name workload is = (position-Some (λ (one : Workload). bytes_eq one.name name) (folding_of lists).workloads workload no_workload is).0

-- the workload at the number of a name has it
pub found-named : (lists : EstateLists) (name : List ℕ) (number : ℕ) (d : Workload) → number_named (folding_of lists) name ≡ Some number
    → (number < length (workloads_of lists)) × ((get_or (workloads_of lists) number d).name ≡ name)
unfolding folding_of
found-named lists name number d is =
    let found = position-Some (λ (one : Workload). bytes_eq one.name name) (workloads_of lists) number d is in
    (found.0, (bytes_eq-Decides (get_or (workloads_of lists) number d).name name).0 found.1)

pub no_fault_at : (fault : Fault) → Some fault ≡ None → ⊥
no_fault_at fault is = cc
