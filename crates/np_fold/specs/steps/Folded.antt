-- What the steps of a folding make.
use Rattle.std.specs.Prelude.{◌≡◌, ℕ, List, [], Bool, ◌==◌, map, length, Option, slice_get, slice_index}
use Rattle.std.specs.List.{list_all, position_or_len}
use Rattle.std.specs.Option.{option_map}
use Rattle.np_fold.specs.Types.{Address, Cidr, EstateLists, Named, Owner, Pod, Traits}
use Rattle.np_addr.specs.declared.address.Address.TheVariants as address
use Rattle.np_addr.specs.declared.cidr.Cidr.TheVariants as cidr
use Rattle.np_classes.specs.Classes.{class_of, firsts, places}
use Rattle.np_fold.specs.Traits.{traits_of, with_owner}
use Rattle.np_fold.specs.Workloads.{Workload, kinds_alike, pods_alike, workload_count}

-- ---- blocks

-- two lists have the same blocks: what all of one pass, all of the other do
abbrev pub HaveSame : List Cidr → List Cidr → Type 0
HaveSame cidrs others = (test : Cidr → Bool) → list_all test cidrs ≡ list_all test others

-- the first address of a block, and how many bits its addresses have in common
abbrev pub start_of : Cidr → Address × ℕ
start_of (cidr.Four base len) = (address.Four base, len)
start_of (cidr.Six base len) = (address.Six base, len)

-- the block of these
abbrev pub block_at : Address × ℕ → Cidr
block_at (address.Four base, len) = cidr.Four base len
block_at (address.Six base, len) = cidr.Six base len

-- ---- numbers

-- the classes of all pods
abbrev pub classes_of_pods : EstateLists → List ℕ
classes_of_pods lists = map (class_of (pods_alike lists) (length lists.pods)) (places (length lists.pods))

-- the number of the first thing of a place among those in order, or how many there are
abbrev pub number_among : List Named → ℕ → ℕ
number_among named place = position_or_len (λ one. one.place == place) named

-- ---- workloads

abbrev pub workload_of : List ℕ → List ℕ → Workload
workload_of name members = record { name = name; members = members }

-- the workload of a name and of the places of its pods
abbrev pub workload_of_pair : Named × List ℕ → Workload
workload_of_pair pair = workload_of pair.0.name pair.1

-- ---- kinds

-- the owner that stands in for all, so that kinds do not look at owners
abbrev pub nobody : Owner
nobody = record { kind = []; name = [] }

-- what rules see of a pod, without its owner
abbrev pub kind_traits : List (List ℕ) → List Cidr → Pod → Traits
kind_traits keys cidrs pod = with_owner nobody (traits_of keys cidrs pod)

-- the same of the pod whose place the list of first pods has for a thing
abbrev pub kind_at : List (List ℕ) → List Cidr → List Pod → List ℕ → Named → Option Traits
kind_at keys cidrs pods firsts one = option_map (kind_traits keys cidrs) (slice_get pods (slice_index firsts one.place))

-- the first workload of each kind
abbrev pub first_kinds : EstateLists → List ℕ
first_kinds lists = firsts (kinds_alike lists) (workload_count lists)

-- the kinds of all workloads
abbrev pub kinds_of_workloads : EstateLists → List ℕ
kinds_of_workloads lists = map (class_of (kinds_alike lists) (workload_count lists)) (places (workload_count lists))
