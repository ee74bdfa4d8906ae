-- What passes between pods, between workloads, and between these and addresses.
use Rattle.std.specs.Prelude.{ℕ, ◌<◌, Bool, ◌&&◌, ◌==◌, not, length, slice_index, if◌then◌else◌}
use Rattle.np_kinds.specs.Types.{Address, Direction, Egress, EstateLists, Family, Ingress, PortSpot}
use Rattle.np_addr.specs.declared.address.Address.TheVariants as address
use Rattle.np_addr.specs.declared.address.Family.TheVariants as family
use Rattle.np_fold.specs.Prelude.{Folding, folding_of, members_of}
use Rattle.np_rules.specs.Prelude.{ModelEnd, address, allows, pod, pod_at}

-- ---- pairs of workloads

abbrev pub number_of_workloads : EstateLists → ℕ
number_of_workloads lists = length (folding_of lists).workloads

-- the number is a workload's
abbrev pub IsWorkload : EstateLists → ℕ → Type 0
IsWorkload lists number = number < number_of_workloads lists

-- whether a workload of one pod meets itself; a template stands for one pod, whatever its `replicas` says
abbrev pub is_alone : Folding → ℕ → ℕ → Bool
is_alone folding source destination = source == destination && length (members_of folding source) == 1

-- the pod that stands for the source: the first of its workload
abbrev pub source_pod : Folding → ℕ → ℕ
source_pod folding source = slice_index (members_of folding source) 0

-- the pod that stands for the destination: the first of its workload, or the second where a workload meets itself
abbrev pub destination_pod : Folding → ℕ → ℕ → ℕ
destination_pod folding source destination = slice_index (members_of folding destination) (if source == destination then 1 else 0)

-- whether packets of a family between two pods, named by their places, are allowed
abbrev pub between_pods : EstateLists → ℕ → ℕ → Family → PortSpot → Bool
between_pods lists source destination family spot =
    allows lists (record { source = pod (pod_at lists source); destination = pod (pod_at lists destination); family = family; spot = spot })

-- Whether packets of a family between two workloads, named by their numbers, are allowed; a workload of one pod sends
-- itself nothing.
unfoldable pub pair_allows : EstateLists → Folding → ℕ → ℕ → Family → PortSpot → Bool
pair_allows lists folding source destination family spot = not (is_alone folding source destination)
    && between_pods lists (source_pod folding source) (destination_pod folding source destination) family spot

-- ---- addresses

-- the address of a family and a number
abbrev pub address_numbered : Family → ℕ → Address
address_numbered family.Four number = address.Four number
address_numbered family.Six number = address.Six number

-- Whether a packet from an address to an end, or from the end to it, is allowed. The address is taken as no pod's, even
-- where a listed pod has it.
abbrev pub with_address : EstateLists → Direction → ModelEnd → Family → ℕ → PortSpot → Bool
with_address lists Ingress near family number spot = allows lists (record { source = address (address_numbered family number); destination = near; family = family; spot = spot })
with_address lists Egress near family number spot = allows lists (record { source = near; destination = address (address_numbered family number); family = family; spot = spot })

-- whether packets between a workload and an address are allowed, to the workload or from it
unfoldable pub address_allows : EstateLists → Folding → ℕ → Direction → Family → ℕ → PortSpot → Bool
address_allows lists folding workload direction family number spot =
    with_address lists direction (pod (pod_at lists (source_pod folding workload))) family number spot
