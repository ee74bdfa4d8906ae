-- Connection sets: for each protocol the ascending ranges of its ports.
use Rattle.std.specs.Prelude.{ℕ, ◌≤◌, ◌<◌, List, length, Bool, true, false, ◌&&◌, nat_le}
use Rattle.np_base.specs.Ranges.{holds, IsAscending}
use Rattle.np_conns.specs.Types.{PortSpot, Proto, Range, Sctp, Tcp, Udp}

-- the ranges of ports of each protocol
pub record Conns : Type 0 where
  pub tcp : List (Range ℕ)
  pub udp : List (Range ℕ)
  pub sctp : List (Range ℕ)

-- the ranges of one protocol
abbrev pub ranges_of : Conns → Proto → List (Range ℕ)
ranges_of conns Tcp = conns.tcp
ranges_of conns Udp = conns.udp
ranges_of conns Sctp = conns.sctp

-- whether two protocols are one
abbrev pub same_proto : Proto → Proto → Bool
same_proto Tcp Tcp = true
same_proto Udp Udp = true
same_proto Sctp Sctp = true
same_proto one another = false

-- whether the spot's port is one, from 1 to 65535
abbrev pub is_spot : PortSpot → Bool
is_spot spot = nat_le 1 spot.port && nat_le spot.port 65535

-- whether the spot's port is in a range of its protocol
abbrev pub has_spot : Conns → PortSpot → Bool
has_spot conns spot = holds (λ port. port) (ranges_of conns spot.proto) spot.port

-- the ranges of ports ascend, and between two neighbours at least one port is missing
abbrev pub AscendsInPorts : List (Range ℕ) → Type 0
AscendsInPorts ranges = IsAscending (λ port. port) 1 65535 ranges

-- the ranges of each protocol's ports ascend, with a gap between neighbours
pub record IsConns (conns : Conns) : Type 0 where
  pub tcp : AscendsInPorts conns.tcp
  pub udp : AscendsInPorts conns.udp
  pub sctp : AscendsInPorts conns.sctp

-- some protocol has more than two ranges
abbrev pub IsLarge : Conns → Type 0
IsLarge conns = (proto : Proto) × (2 < length (ranges_of conns proto))

-- a range of ports that is not empty
pub record IsRun (run : Range ℕ) : Type 0 where
  pub low : 1 ≤ run.lo
  pub ordered : run.lo ≤ run.hi
  pub high : run.hi ≤ 65535

-- the place of a protocol among the three
abbrev pub proto_number : Proto → ℕ
proto_number Tcp = 0
proto_number Udp = 1
proto_number Sctp = 2
