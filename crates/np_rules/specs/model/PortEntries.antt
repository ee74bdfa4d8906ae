-- Which protocols and ports a port entry matches.
use Rattle.std.specs.Prelude.{◌≡◌, ℕ, List, Bool, false, ◌&&◌, ◌==◌, nat_le, refl}
use Rattle.std.specs.List.{list_any}
use Rattle.std.specs.Str.{bytes_eq}
use Rattle.np_rules.specs.Types.{Address, NamedPort, NetPort, PortSpot, Proto}
use Rattle.np_conns.specs.Prelude.{same_proto}
use Rattle.np_model.specs.declared.admin_policy.AdminPort.{AdminPort}
use Rattle.np_model.specs.declared.admin_policy.AdminPort.TheVariants as admin
use Rattle.np_model.specs.declared.network_policy.NetPort.TheVariants as net
use Rattle.np_rules.specs.model.Ends.{ModelEnd, pod, address}

-- whether the spot has the protocol, and a port from lo to hi
abbrev pub in_span : Proto → ℕ → ℕ → PortSpot → Bool
in_span proto lo hi spot = same_proto spot.proto proto && (nat_le lo spot.port && nat_le spot.port hi)

-- whether a container port has the name, and is the spot's
abbrev pub is_named : List ℕ → PortSpot → NamedPort → Bool
is_named name spot port = bytes_eq port.name name && (same_proto spot.proto port.proto && (spot.port == port.number))

-- whether the spot is a port of that name at the end; an address has none
abbrev pub has_named : List ℕ → PortSpot → ModelEnd → Bool
has_named name spot (pod p) = list_any (is_named name spot) p.ports
has_named name spot (address a) = false

-- a port entry of a NetworkPolicy, for a packet to this destination
abbrev pub net_entry_matches : NetPort → ModelEnd → PortSpot → Bool
net_entry_matches (net.Span proto lo hi) destination spot = in_span proto lo hi spot
net_entry_matches (net.Named proto name) destination spot = same_proto spot.proto proto && has_named name spot destination

-- a port entry of an admin rule: a named port has the protocol that it has at the destination
abbrev pub admin_entry_matches : AdminPort → ModelEnd → PortSpot → Bool
admin_entry_matches (admin.Span proto lo hi) destination spot = in_span proto lo hi spot
admin_entry_matches (admin.Named name) destination spot = has_named name spot destination

-- an address has no named ports, so it matters not which one it is
pub net_same_at_addresses : (entry : NetPort) (a b : Address) (spot : PortSpot) → net_entry_matches entry (address a) spot ≡ net_entry_matches entry (address b) spot
net_same_at_addresses (net.Span proto lo hi) a b spot = refl
net_same_at_addresses (net.Named proto name) a b spot = refl

pub admin_same_at_addresses : (entry : AdminPort) (a b : Address) (spot : PortSpot) → admin_entry_matches entry (address a) spot ≡ admin_entry_matches entry (address b) spot
admin_same_at_addresses (admin.Span proto lo hi) a b spot = refl
admin_same_at_addresses (admin.Named name) a b spot = refl
