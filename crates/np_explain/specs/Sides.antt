-- What decides the packets between two ends, at one side of them.
use Rattle.std.specs.Prelude.{◌≡◌, List, [], ◌∷◌, Bool, true, false, ◌==◌, Option, Some, None}
use Rattle.np_addr.specs.Prelude.{family_of}
use Rattle.np_explain.specs.Types.{Decider, Direction, Egress, End as PlacedEnd, EstateLists, Family, Ingress, PortSpot}
use Rattle.np_model.specs.Prelude.{families_of}
use Rattle.np_rules.specs.Prelude.{Contact, ModelEnd, ModelPacket, PodSide, address, contact, contact_of, decider, end_of, near_pod, pod}
use Rattle.np_rules.specs.declared.packet.End.TheVariants.{Pod, At}

-- ---- two ends

-- the packet of a family from one end to another, at a spot
abbrev pub packet_between : EstateLists → PlacedEnd → PlacedEnd → Family → PortSpot → ModelPacket
packet_between lists source destination family spot = record { source = end_of lists source; destination = end_of lists destination; family = family; spot = spot }

-- whether both ends are one pod
abbrev pub are_one_pod : PlacedEnd → PlacedEnd → Bool
are_one_pod (Pod p) (Pod q) = p == q
are_one_pod source destination = false

-- The families of the packets between two ends: that of the end that is an address, and of the source where both are;
-- between pods those of the estate.
abbrev pub packet_families : EstateLists → PlacedEnd → PlacedEnd → List Family
packet_families lists (At a) destination = family_of a ∷ []
packet_families lists (Pod p) (At a) = family_of a ∷ []
packet_families lists (Pod p) (Pod q) = families_of lists.pods

abbrev pub only_family : List Family → Option Family
only_family (one ∷ []) = Some one
only_family families = None

-- the one family in which packets between two ends are asked about, where they have only one
abbrev pub family_asked : EstateLists → PlacedEnd → PlacedEnd → Option Family
family_asked lists source destination = only_family (packet_families lists source destination)

-- the family is that of an end that is an address; at a pod it may be either
abbrev pub IsFamilyAt : PlacedEnd → Family → Type 0
IsFamilyAt (At a) family = family ≡ family_of a
IsFamilyAt (Pod p) family = Unit {0}

-- the family is that of the end that is an address, and of the source where both are
abbrev pub IsFamilyOf : PlacedEnd → PlacedEnd → Family → Type 0
IsFamilyOf (At a) destination family = IsFamilyAt (At a) family
IsFamilyOf (Pod p) destination family = IsFamilyAt destination family

-- ---- one side of them

-- a source sends, and a destination receives
abbrev pub end_at : Direction → ModelPacket → ModelEnd
end_at Egress packet = packet.source
end_at Ingress packet = packet.destination

abbrev pub placed_at : Direction → PlacedEnd → PlacedEnd → PlacedEnd
placed_at Egress source destination = source
placed_at Ingress source destination = destination

abbrev pub is_address : ModelEnd → Bool
is_address (pod p) = false
is_address (address a) = true

-- what decides a packet at that side
abbrev pub decider_at : EstateLists → Direction → ModelPacket → Decider
decider_at lists direction packet = decider lists direction (end_at direction packet) (contact_of direction packet)

-- what decides there between two ends, spot by spot
abbrev pub decider_between : EstateLists → Direction → PlacedEnd → PlacedEnd → Family → PortSpot → Decider
decider_between lists direction source destination family spot = decider_at lists direction (packet_between lists source destination family spot)

-- what decides at a near end, with a far one
abbrev pub decider_near : EstateLists → Direction → PlacedEnd → PlacedEnd → Family → PortSpot → Decider
decider_near lists direction near far family spot = decider lists direction (end_of lists near) (contact direction (end_of lists near) (end_of lists far) family spot)

-- what a pod's side looks at, by its far end
abbrev pub with_end : PlacedEnd → Family → PodSide → PortSpot → Contact
with_end far family side = contact side.direction (pod (near_pod side)) (end_of side.lists far) family
