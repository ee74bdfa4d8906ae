-- Connection sets, spot by spot.
use Rattle.std.proofs.Common.{◌≡◌, true, ap, ◌∙◌, arith}
use Rattle.np_base.proofs.Ranges.{same_members_same_ranges}
use Rattle.np_sets.specs.Laws.{holds-between}
use Rattle.np_conns.specs.Conns.{Conns, ranges_of, is_spot, has_spot, AscendsInPorts, IsConns}
use Rattle.np_conns.specs.Types.{PortSpot, Proto, Sctp, Tcp, Udp}

-- the ranges of each protocol ascend
pub ranges_of-ascend : (conns : Conns) → IsConns conns → (proto : Proto) → AscendsInPorts (ranges_of conns proto)
ranges_of-ascend conns well Tcp = well.tcp
ranges_of-ascend conns well Udp = well.udp
ranges_of-ascend conns well Sctp = well.sctp

-- a set has only spots of the space
pub has_spot-is_spot : (conns : Conns) (spot : PortSpot) → IsConns conns → has_spot conns spot ≡ true → is_spot spot ≡ true
has_spot-is_spot conns spot well has = holds-between (λ p. p) 1 65535 (ranges_of conns spot.proto) spot.port (ranges_of-ascend conns well spot.proto) has

-- sets with equal ranges of each protocol are equal
pub equal_by_ranges : (a b : Conns) → ((proto : Proto) → ranges_of a proto ≡ ranges_of b proto) → a ≡ b
equal_by_ranges a b same =
    ap (λ t. record { tcp = t; udp = a.udp; sctp = a.sctp }) (same Tcp) ∙ ap (λ u. record { tcp = b.tcp; udp = u; sctp = a.sctp }) (same Udp) ∙ ap (λ s. record { tcp = b.tcp; udp = b.udp; sctp = s }) (same Sctp)

-- sets of the same spots are equal
pub equal_by_spots : (a b : Conns) → IsConns a → IsConns b → ((spot : PortSpot) → has_spot a spot ≡ has_spot b spot) → a ≡ b
equal_by_spots a b well_a well_b alike =
    equal_by_ranges a b (λ proto.
    same_members_same_ranges (λ p. p) 1 65535 (λ p q low high equal. equal) 1 (ranges_of a proto) (ranges_of b proto) (omega arith) (ranges_of-ascend a well_a proto) (ranges_of-ascend b well_b proto)
    (λ port low high. alike (record { proto = proto; port = port })))
