-- The ends that the forms of a statement name.
use Rattle.std.specs.Prelude.{ℕ, ◌+◌, ◌-◌, ◌^◌, List, [], ◌∷◌, Bool, false, filter, Option, Some, None, Result, Ok, Err, slice_get}
use Rattle.std.specs.List.{range_with_len}
use Rattle.std.specs.Option.{option_map_or}
use Rattle.std.specs.Str.{bytes_eq}
use Rattle.np_addr.specs.Prelude.{AddressRanges}
use Rattle.np_statements.specs.Types.{Addresses, Block, Cidr, EndForm, Ends, EstateLists, Namespace, Pods, Work}
use Rattle.np_addr.specs.declared.cidr.Cidr.TheVariants.{Four, Six}
use Rattle.np_fold.specs.Prelude.{folding_of, number_named}
use Rattle.np_kinds.specs.Prelude.{number_of_workloads, source_pod}

-- ---- workloads

-- the numbers of all workloads
abbrev pub all_works : EstateLists → List ℕ
all_works lists = range_with_len 0 (number_of_workloads lists)

-- whether a workload is of the namespace of a name: its pods are, which the first of them tells
abbrev pub is_work_in_namespace : EstateLists → List ℕ → ℕ → Bool
is_work_in_namespace lists name work =
    option_map_or (λ pod. bytes_eq pod.namespace name) (slice_get lists.pods (source_pod (folding_of lists) work)) false

-- ---- addresses

abbrev pub no_address : AddressRanges
no_address = record { first = []; second = [] }

-- the addresses of both families
abbrev pub every_address : AddressRanges
every_address = record { first = record { lo = 0; hi = 2 ^ 32 - 1 } ∷ []; second = record { lo = 0; hi = 2 ^ 128 - 1 } ∷ [] }

-- the addresses of a block: all that begin with its first bits, as many as its length says
abbrev pub block_addresses : Cidr → AddressRanges
block_addresses (Four base len) = record { first = record { lo = base; hi = base + 2 ^ (32 - len) - 1 } ∷ []; second = [] }
block_addresses (Six base len) = record { first = []; second = record { lo = base; hi = base + 2 ^ (128 - len) - 1 } ∷ [] }

-- ---- forms

abbrev pub works_alone : List ℕ → Ends
works_alone works = record { works = works; block = no_address }

abbrev pub addresses_alone : AddressRanges → Ends
addresses_alone block = record { works = []; block = block }

-- the workload of a name alone, or the name where no workload has it
abbrev pub named_alone : List ℕ → Option ℕ → Result Ends (List ℕ)
named_alone name (Some work) = Ok (works_alone (work ∷ []))
named_alone name None = Err name

-- the ends of a form, or the name that no workload has
unfoldable pub ends_of : EstateLists → EndForm → Result Ends (List ℕ)
ends_of lists Pods = Ok (works_alone (all_works lists))
ends_of lists Addresses = Ok (addresses_alone every_address)
ends_of lists (Namespace name) = Ok (works_alone (filter (is_work_in_namespace lists name) (all_works lists)))
ends_of lists (Work name) = named_alone name (number_named (folding_of lists) name)
ends_of lists (Block cidr) = Ok (addresses_alone (block_addresses cidr))
