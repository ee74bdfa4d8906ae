-- The first packet that breaks a statement.
use Rattle.std.specs.Prelude.{ℕ, ◌^◌, List, [], ◌∷◌, ◌++◌, Bool, true, not, ◌&&◌, map, filter, Option, option_map, if◌then◌else◌}
use Rattle.std.specs.List.{range_with_len}
use Rattle.np_addr.specs.Prelude.{AddressRanges, family_of, set_has}
use Rattle.np_check.specs.Types.{Address, Allow, At, Counterexample, Deny, Egress, Ends, EstateLists, Family, Four, Ingress, PlaceEnd, PortSpot, Question, Six, Wanted, Work}
use Rattle.np_check.specs.Firsts.{first_given, first_spot}
use Rattle.np_conns.specs.Prelude.{Conns, has_spot}
use Rattle.np_model.specs.Prelude.{families_of}
use Rattle.np_fold.specs.Prelude.{folding_of}
use Rattle.np_kinds.specs.Prelude.{address_allows, is_alone, pair_allows}

-- ---- ends

-- the addresses of a family in a set, by their numbers, of which there are so many
unfoldable pub family_addresses : AddressRanges → (ℕ → Address) → ℕ → List Address
family_addresses set address count = filter (set_has set) (map address (range_with_len 0 count))

-- the addresses of a set: IPv4 before IPv6
abbrev pub addresses_of : AddressRanges → List Address
addresses_of set = family_addresses set Four (2 ^ 32) ++ family_addresses set Six (2 ^ 128)

-- the ends of a side in their order: workloads before addresses
abbrev pub places_of : Ends → List PlaceEnd
places_of ends = map Work ends.works ++ map At (addresses_of ends.block)

abbrev pub number_of_address : Address → ℕ
number_of_address (Four n) = n
number_of_address (Six n) = n

-- ---- packets between two ends

-- The families of the packets that a statement speaks of: between workloads those of the list, and with an address its
-- own. It speaks of no packet of a workload of one pod with itself, nor of any between two addresses.
abbrev pub families_between : EstateLists → PlaceEnd → PlaceEnd → List Family
families_between lists (Work a) (Work b) = if is_alone (folding_of lists) a b then [] else families_of lists.pods
families_between lists (Work a) (At address) = family_of address ∷ []
families_between lists (At address) (Work b) = family_of address ∷ []
families_between lists (At address) (At other) = []

-- whether a packet is allowed
abbrev pub allows_between : EstateLists → PlaceEnd → PlaceEnd → Family → PortSpot → Bool
allows_between lists (Work a) (Work b) family spot = pair_allows lists (folding_of lists) a b family spot
allows_between lists (Work a) (At address) family spot = address_allows lists (folding_of lists) a Egress family (number_of_address address) spot
allows_between lists (At address) (Work b) family spot = address_allows lists (folding_of lists) b Ingress family (number_of_address address) spot
allows_between lists (At address) (At other) family spot = true

-- whether a verdict is the wanted one
abbrev pub complies : Wanted → Bool → Bool
complies Allow allowed = allowed
complies Deny allowed = not allowed

-- whether a packet at a spot, with a test of what is allowed there, is one that the statement speaks of and that breaks it
abbrev pub breaks : Wanted → Conns → (PortSpot → Bool) → PortSpot → Bool
breaks wanted conns allowed spot = has_spot conns spot && not (complies wanted (allowed spot))

-- ---- the first that breaks it

abbrev pub counterexample_at : PlaceEnd → PlaceEnd → Family → PortSpot → Counterexample
counterexample_at source destination family spot = record { source = source; destination = destination; family = family; spot = spot }

-- between two ends in a family, by protocol and port
abbrev pub counterexample_in : EstateLists → Wanted → Conns → PlaceEnd → PlaceEnd → Family → Option Counterexample
counterexample_in lists wanted conns source destination family =
    option_map (counterexample_at source destination family)
    (first_spot (breaks wanted conns (allows_between lists source destination family)))

-- between two ends, by family: IPv4 before IPv6
unfoldable pub counterexample_between : EstateLists → Wanted → Conns → PlaceEnd → PlaceEnd → Option Counterexample
counterexample_between lists wanted conns source destination =
    first_given (counterexample_in lists wanted conns source destination) (families_between lists source destination)

-- from an end, by destination
unfoldable pub counterexample_from : EstateLists → Wanted → Conns → Ends → PlaceEnd → Option Counterexample
counterexample_from lists wanted conns destinations source = first_given (counterexample_between lists wanted conns source) (places_of destinations)

-- of all, by source
unfoldable pub counterexample_of : EstateLists → Question → Option Counterexample
counterexample_of lists question =
    first_given (counterexample_from lists question.wanted question.conns question.destination) (places_of question.source)
