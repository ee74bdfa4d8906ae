-- All addresses of both families at once: sets of places, each of which is an address with a protocol and a port.
use Rattle.std.specs.Prelude.{ℕ, ◌-◌, ◌^◌, List, [], Bool, ◌&&◌}
use Rattle.np_rules.specs.Types.{Address, AdminPeer, At, Beside, Direction, First, NetPeer, Piece, PortSpot, Second, Six, Which}
use Rattle.np_addr.specs.declared.address.Address.TheVariants.{Four}
use Rattle.np_addr.specs.Prelude.{family_of}
use Rattle.np_base.specs.Beside.{by_side}
use Rattle.np_conns.specs.Prelude.{Conns, has_spot, is_spot}
use Rattle.np_pieces.specs.Pieces as pieces
use Rattle.np_rules.specs.model.Ends.{Contact, ModelEnd, address, contact}
use Rattle.np_rules.specs.model.Peers.{admin_peer_matches, net_peer_matches}
use Rattle.np_rules.specs.Views.{end_view}
use Rattle.np_rules.specs.declared.every_address.EveryAddress.{EveryAddress}
use Rattle.np_sets.specs.Space.{is_between}

-- an address of either family, with a protocol and a port
abbrev pub AddressSpot : Type 0
AddressSpot = Which (At ℕ PortSpot) (At ℕ PortSpot)

abbrev pub address_of : AddressSpot → Address
address_of (First place) = Four place.point
address_of (Second place) = Six place.point

abbrev pub spot_of : AddressSpot → PortSpot
spot_of (First place) = place.spot
spot_of (Second place) = place.spot

-- whether the number is one of the family, and the port is one
abbrev pub is_address_spot : AddressSpot → Bool
is_address_spot = by_side (λ place. is_between 0 (2 ^ 32 - 1) place.point && is_spot place.spot) (λ place. is_between 0 (2 ^ 128 - 1) place.point && is_spot place.spot)

-- whether the connections at the address have the spot
abbrev pub has_address_spot : Beside (List (Piece ℕ Conns)) (List (Piece ℕ Conns)) → AddressSpot → Bool
has_address_spot set = by_side (pieces.has_spot (λ a. a) has_spot set.first) (pieces.has_spot (λ a. a) has_spot set.second)

-- what the side of a near end looks at, where the address is the far end
abbrev pub address_contact : Direction → ModelEnd → AddressSpot → Contact
address_contact direction near place = contact direction near (address (address_of place)) (family_of (address_of place)) (spot_of place)

abbrev pub every_contact : EveryAddress → AddressSpot → Contact
every_contact ends place = address_contact ends.direction (end_view ends.near) place

-- whether an address is one of a peer's; a namespace and a family change nothing there
abbrev pub net_peer_has : NetPeer → Address → Bool
net_peer_has peer a = net_peer_matches [] peer (address a)

abbrev pub admin_peer_has : AdminPeer → Address → Bool
admin_peer_has peer a = admin_peer_matches peer (address a) (family_of a)
