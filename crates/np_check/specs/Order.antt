-- The order of packets by their ends, families, protocols and ports.
use Rattle.std.specs.Prelude.{Bool, true, false, nat_lt}
use Rattle.np_check.specs.Types.{Address, At, Family, PlaceEnd, Proto, Work}
use Rattle.np_conns.specs.Prelude.{proto_number}
use Rattle.np_addr.specs.declared.address.Address.TheVariants as address
use Rattle.np_addr.specs.declared.address.Family.TheVariants as family

-- IPv4 before IPv6, and each family's by their numbers
abbrev pub address_before : Address → Address → Bool
address_before (address.Four m) (address.Four n) = nat_lt m n
address_before (address.Four m) (address.Six n) = true
address_before (address.Six m) (address.Four n) = false
address_before (address.Six m) (address.Six n) = nat_lt m n

-- workloads by number before addresses
abbrev pub comes_before : PlaceEnd → PlaceEnd → Bool
comes_before (Work a) (Work b) = nat_lt a b
comes_before (Work a) (At other) = true
comes_before (At one) (Work b) = false
comes_before (At one) (At other) = address_before one other

-- IPv4 is the lesser family
abbrev pub family_before : Family → Family → Bool
family_before family.Four family.Six = true
family_before one other = false

-- TCP, UDP, SCTP
abbrev pub proto_before : Proto → Proto → Bool
proto_before one other = nat_lt (proto_number one) (proto_number other)
