-- The next workload of a group.
use Rattle.std.specs.Prelude.{ℕ, ◌+◌, ◌-◌, ◌==◌, find, Option}
use Rattle.std.specs.List.{range_with_len}
use Rattle.np_flatten.specs.Types.{EstateLists}
use Rattle.np_flatten.specs.Groups.{group_of}
use Rattle.np_kinds.specs.Prelude.{number_of_workloads}

-- the first one of a group behind a workload
abbrev pub next_in : EstateLists → ℕ → ℕ → Option ℕ
next_in lists workload group = find (λ other. group_of lists other == group) (range_with_len (workload + 1) (number_of_workloads lists - (workload + 1)))
