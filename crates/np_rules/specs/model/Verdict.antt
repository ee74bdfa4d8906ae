-- Whether a packet is allowed.
use Rattle.std.specs.Prelude.{ℕ, ◌<◌, [], length, Bool, true, ◌&&◌}
use Rattle.std.specs.List.{slice_get}
use Rattle.std.specs.Option.{option_map_or}
use Rattle.np_rules.specs.Types.{Direction, Egress, EstateLists, Ingress}
use Rattle.np_rules.specs.model.Ends.{ModelEnd, Contact, ModelPacket, PodEnd, pod, address, contact_of, pod_end}
use Rattle.np_rules.specs.model.Sides.{side_allows}
use Rattle.np_rules.specs.declared.packet.End.{End as PlacedEnd}
use Rattle.np_rules.specs.declared.packet.End.TheVariants as placed
use Rattle.np_rules.specs.declared.packet.Packet.{Packet as PlacedPacket}

-- what the side of an end says; an address has no side of its own
abbrev pub end_allows : EstateLists → Direction → ModelEnd → Contact → Bool
end_allows lists direction (pod p) contact = side_allows lists direction p contact
end_allows lists direction (address a) contact = true

-- A packet is allowed where the egress side of its source and the ingress side of its destination allow it. Two
-- exceptions of Kubernetes are not in this model: traffic between a pod and itself, and between a pod and its node, is
-- allowed there whatever the policies say.
unfoldable pub allows : EstateLists → ModelPacket → Bool
allows lists packet = end_allows lists Egress packet.source (contact_of Egress packet)
    && end_allows lists Ingress packet.destination (contact_of Ingress packet)

-- ---- packets that name pods by their places in the estate

-- a pod without anything, for places where there is none
abbrev pub no_pod : PodEnd
no_pod = record { namespace = []; namespace_labels = []; labels = []; ports = []; addresses = [] }

-- the pod at a place
abbrev pub pod_at : EstateLists → ℕ → PodEnd
pod_at lists place = option_map_or pod_end (slice_get lists.pods place) no_pod

abbrev pub end_of : EstateLists → PlacedEnd → ModelEnd
end_of lists (placed.Pod place) = pod (pod_at lists place)
end_of lists (placed.At a) = address a

-- the pod at the place is one of the estate
abbrev pub IsEndOf : EstateLists → PlacedEnd → Type 0
IsEndOf lists (placed.Pod place) = place < length lists.pods
IsEndOf lists (placed.At a) = Unit {0}

abbrev pub packet_of : EstateLists → PlacedPacket → ModelPacket
packet_of lists packet = record {
  source = end_of lists packet.source;
  destination = end_of lists packet.destination;
  family = packet.family;
  spot = record { proto = packet.proto; port = packet.port };
}
