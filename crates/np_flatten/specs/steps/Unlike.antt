-- The least pair of a number and of the first of its group that differ, among some numbers.
use Rattle.std.specs.Prelude.{ℕ, List, Option, slice_index}
use Rattle.np_flatten.specs.Types.{EstateLists}
use Rattle.np_flatten.specs.Faults.{differ}
use Rattle.np_flatten.specs.Groups.{first_of_group, group_of}
use Rattle.np_flatten.specs.steps.Least.{IsLeast}
use Rattle.np_kinds.specs.Prelude.{number_of_workloads}

-- the first workload of the group of one, by the lists of first workloads and of numbers of groups
abbrev pub first_by : List ℕ → List ℕ → ℕ → ℕ
first_by group_firsts numbers workload = slice_index group_firsts (slice_index numbers workload)

-- the first workload of the group of one
abbrev pub first_with : EstateLists → ℕ → ℕ
first_with lists workload = first_of_group lists (group_of lists workload)

-- what was found is the least such pair of workloads, among these
abbrev pub IsLeastUnlike : EstateLists → List ℕ → Option (ℕ × ℕ) → Type 0
IsLeastUnlike lists = IsLeast (number_of_workloads lists) (first_with lists) (differ lists)
