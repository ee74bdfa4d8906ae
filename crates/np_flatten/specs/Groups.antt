-- Groups of workloads: those of one namespace whose pods have the same labels, as far as selectors tell.
use Rattle.std.specs.Prelude.{ℕ, List, Bool, ◌&&◌, length, slice_index}
use Rattle.std.specs.List.{list_all}
use Rattle.std.specs.Option.{option_eq}
use Rattle.std.specs.Str.{bytes_eq}
use Rattle.np_classes.specs.Classes.{class_of, firsts}
use Rattle.np_flatten.specs.Types.{EstateLists}
use Rattle.np_fold.specs.Prelude.{folding_of}
use Rattle.np_labels.specs.Prelude.{value_of}
use Rattle.np_rules.specs.Prelude.{PodEnd}
use Rattle.np_kinds.specs.Prelude.{first_end, number_of_workloads}

-- the keys of labels that selectors name, in ascending order
abbrev pub relevant : EstateLists → List (List ℕ)
relevant lists = (folding_of lists).relevant

-- whether two pods have the same value of a key, or neither has the key
abbrev pub ends_have_same_value : PodEnd → PodEnd → List ℕ → Bool
ends_have_same_value a b key = option_eq bytes_eq (value_of a.labels key) (value_of b.labels key)

-- whether two pods are of one namespace and have the same values of these keys
abbrev pub look_alike : List (List ℕ) → PodEnd → PodEnd → Bool
look_alike keys a b = bytes_eq a.namespace b.namespace && list_all (ends_have_same_value a b) keys

-- whether two workloads, named by their numbers, are of one group
unfoldable pub are_together : EstateLists → ℕ → ℕ → Bool
are_together lists a b = look_alike (relevant lists) (first_end lists a) (first_end lists b)

-- the first workload of each group, in ascending order
abbrev pub group_firsts : EstateLists → List ℕ
group_firsts lists = firsts (are_together lists) (number_of_workloads lists)

-- how many groups there are; they are numbered from 0 by the first workload of each
abbrev pub group_count : EstateLists → ℕ
group_count lists = length (group_firsts lists)

-- the number of a workload's group
abbrev pub group_of : EstateLists → ℕ → ℕ
group_of lists workload = class_of (are_together lists) (number_of_workloads lists) workload

-- the first workload of a group
abbrev pub first_of_group : EstateLists → ℕ → ℕ
first_of_group lists group = slice_index (group_firsts lists) group
