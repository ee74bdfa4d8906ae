-- Who sends what to whom.
use Rattle.std.specs.Prelude.{ℕ, List, [], unwrap_or, codes}
use Rattle.np_rules.specs.Types.{Address, Direction, Egress, Family, Ingress, NamedPort, PortSpot, Stranger}
use Rattle.np_model.specs.declared.pod.Pod.{Pod}
use Rattle.np_labels.specs.Prelude.{value_of}
use Rattle.np_labels.specs.declared.pair.Pair.{Pair}

-- a pod, as rules see it
pub record PodEnd : Type 0 where
  pub namespace : List ℕ
  pub namespace_labels : List Pair
  pub labels : List Pair
  pub ports : List NamedPort
  pub addresses : List Address

-- An end of a connection. An address is taken as no pod's, even where a listed pod has it: no side of a pod speaks for
-- it, and no pod selector matches it.
pub data ModelEnd : Type 0 where
  pod : PodEnd → ModelEnd
  address : Address → ModelEnd

-- one packet: its two ends, its family, and its protocol and port
pub record ModelPacket : Type 0 where
  pub source : ModelEnd
  pub destination : ModelEnd
  pub family : Family
  pub spot : PortSpot

-- What a pod's side of a packet looks at: the end at the far side, the end that the packet goes to, its family, and
-- its protocol and port.
pub record Contact : Type 0 where
  pub far : ModelEnd
  pub destination : ModelEnd
  pub family : Family
  pub spot : PortSpot

-- the packet as the side of its destination sees it, and as that of its source does
abbrev pub contact_of : Direction → ModelPacket → Contact
contact_of Ingress packet = record { far = packet.source; destination = packet.destination; family = packet.family; spot = packet.spot }
contact_of Egress packet = record { far = packet.destination; destination = packet.destination; family = packet.family; spot = packet.spot }

-- the end that a packet goes to, between a near end and a far one
abbrev pub destination_of : Direction → ModelEnd → ModelEnd → ModelEnd
destination_of Ingress near far = near
destination_of Egress near far = far

-- what the side of the near end looks at
abbrev pub contact : Direction → ModelEnd → ModelEnd → Family → PortSpot → Contact
contact direction near far family spot = record { far = far; destination = destination_of direction near far; family = family; spot = spot }

-- the pod of an estate, as rules see it
abbrev pub pod_end : Pod → PodEnd
pod_end p = record { namespace = p.namespace; namespace_labels = p.namespace_labels; labels = p.labels; ports = p.ports; addresses = p.addresses }

-- A pod that nobody has written yet, as rules see it. Its namespace's labels say the name of the namespace. It has no
-- named ports and no address.
abbrev pub stranger_end : Stranger → PodEnd
stranger_end s = record { namespace = unwrap_or (value_of s.namespace (codes "kubernetes.io/metadata.name")) []; namespace_labels = s.namespace; labels = s.labels; ports = []; addresses = [] }
