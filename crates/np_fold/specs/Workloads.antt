-- Workloads: classes of alike pods, by name.
use Rattle.std.specs.Prelude.{ℕ, String, string_bytes, List, [], ◌++◌, Bool, ◌==◌, map, length, codes, Option, position, slice_get, slice_index}
use Rattle.std.specs.List.{list_any, position_or_len}
use Rattle.std.specs.Option.{option_and_then, option_map_or}
use Rattle.std.specs.Str.{bytes_eq}
use Rattle.std.specs.declared.alloc.Global.{Global}
use Rattle.np_classes.specs.Classes.{class_of, firsts, members, of_both, places}
use Rattle.np_fold.specs.Types.{EstateLists, Named, Pod}
use Rattle.np_fold.specs.Alike.{are_alike, are_same_kind}
use Rattle.np_fold.specs.Keys.{keys_of_estate}
use Rattle.np_labels.specs.Prelude.{distinct}
use Rattle.np_names.specs.Names.{all_by_name}

-- ---- what a folding is

-- a workload: its name, and the places of its pods in ascending order
pub record Workload : Type 0 where
  pub name : List ℕ
  pub members : List ℕ

-- The workloads in the order of their names, the number of each pod's workload, the number of each workload's kind, how
-- many kinds there are, the first workload of each, and the keys of labels that selectors name, in ascending order. A
-- kind is that of `are_same_kind`, and no kind of Kubernetes objects.
pub record Folding : Type 0 where
  pub workloads : List Workload
  pub numbers : List ℕ
  pub kinds : List ℕ
  pub kind_count : ℕ
  pub first_of_kinds : List ℕ
  pub relevant : List (List ℕ)

-- the workload of a name and of the places of its pods
abbrev pub workload_of_entry : String Global × List ℕ → Workload
workload_of_entry entry = record { name = string_bytes entry.0; members = entry.1 }

-- ---- pods by their places

-- whether the pods at two places are alike
abbrev pub pods_alike : EstateLists → ℕ → ℕ → Bool
pods_alike lists a b = of_both (are_alike lists) (slice_get lists.pods a) (slice_get lists.pods b)

-- the first pod of each workload, in ascending order
abbrev pub first_pods : EstateLists → List ℕ
first_pods lists = firsts (pods_alike lists) (length lists.pods)

-- all pods that are alike to one
abbrev pub pods_like : EstateLists → ℕ → List ℕ
pods_like lists place = members (pods_alike lists) (length lists.pods) place

-- ---- names

-- `namespace/name[Kind]` of its top owner
abbrev pub owner_name : Pod → List ℕ
owner_name pod = pod.namespace ++ codes "/" ++ pod.owner.name ++ codes "[" ++ pod.owner.kind ++ codes "]"

-- the name of the top owner of the pod at a place
abbrev pub owner_name_at : EstateLists → ℕ → List ℕ
owner_name_at lists place = option_map_or owner_name (slice_get lists.pods place) []

-- The names of the top owners of the first pods. Where several workloads have one owner, `#` and a number follow its
-- name, from 1 in the order in which their first pods stand in the inputs.
abbrev pub owner_names : EstateLists → List (List ℕ)
owner_names lists = map (owner_name_at lists) (first_pods lists)

-- the first pods' places among themselves, by the names of their workloads
abbrev pub named_first_pods : EstateLists → List Named
named_first_pods lists = all_by_name (owner_names lists)

-- the first pod of a named workload
abbrev pub first_of : EstateLists → Named → ℕ
first_of lists one = slice_index (first_pods lists) one.place

abbrev pub workload : EstateLists → Named → Workload
workload lists one = record { name = one.name; members = pods_like lists (first_of lists one) }

-- The workloads in the byte order of their names, in which one that ends in `#10` stands before one that ends in `#2`.
-- This order gives them their numbers, from 0.
unfoldable pub workloads_of : EstateLists → List Workload
workloads_of lists = map (workload lists) (named_first_pods lists)

-- ---- numbers

abbrev pub has_pod : ℕ → Workload → Bool
has_pod place one = list_any (λ member. member == place) one.members

-- the number of the workload of the pod at a place
unfoldable pub workload_number : EstateLists → ℕ → ℕ
workload_number lists place = position_or_len (has_pod place) (workloads_of lists)

-- the first pod of the workload of a number
abbrev pub first_pod : EstateLists → ℕ → Option Pod
first_pod lists number = option_and_then (λ one. slice_get lists.pods (first_of lists one)) (slice_get (named_first_pods lists) number)

-- whether the workloads of two numbers are of one kind: their first pods are
abbrev pub kinds_alike : EstateLists → ℕ → ℕ → Bool
kinds_alike lists a b = of_both (are_same_kind lists) (first_pod lists a) (first_pod lists b)

-- how many workloads there are
abbrev pub workload_count : EstateLists → ℕ
workload_count lists = length (first_pods lists)

-- ---- what a folding says of a workload

abbrev pub members_of : Folding → ℕ → List ℕ
members_of folding number = option_map_or (λ one. one.members) (slice_get folding.workloads number) []

abbrev pub name_of_workload : Folding → ℕ → List ℕ
name_of_workload folding number = option_map_or (λ one. one.name) (slice_get folding.workloads number) []

-- the number of the workload of a name
abbrev pub number_named : Folding → List ℕ → Option ℕ
number_named folding name = position (λ one. bytes_eq one.name name) folding.workloads

-- ---- all of it

-- the folding of an estate; kinds are numbered from 0 by the first workload of each
unfoldable pub folding_of : EstateLists → Folding
folding_of lists = record {
  workloads = workloads_of lists;
  numbers = map (workload_number lists) (places (length lists.pods));
  kinds = map (class_of (kinds_alike lists) (workload_count lists)) (places (workload_count lists));
  kind_count = length (firsts (kinds_alike lists) (workload_count lists));
  first_of_kinds = firsts (kinds_alike lists) (workload_count lists);
  relevant = distinct (keys_of_estate lists);
}
