-- The first packet that breaks a statement, by what it is.
use Rattle.std.specs.Prelude.{◌≡◌, ◌≤◌, true, false, Contains}
use Rattle.np_check.specs.Counterexamples.{allows_between, breaks, families_between}
use Rattle.np_check.specs.Holding.{HasAddress}
use Rattle.np_check.specs.Order.{comes_before, family_before, proto_before}
use Rattle.np_check.specs.Types.{At, Counterexample, Ends, EstateLists, PlaceEnd, Question, Work}
use Rattle.np_conns.specs.Prelude.{is_spot}

-- the end is one of a side
abbrev pub IsEndOf : Ends → PlaceEnd → Type 0
IsEndOf ends (Work work) = Contains ends.works work
IsEndOf ends (At address) = HasAddress ends address

-- the statement speaks of the packet, and the packet does not comply
pub record IsBroken (lists : EstateLists) (question : Question) (packet : Counterexample) : Type 0 where
  pub from : IsEndOf question.source packet.source
  pub to : IsEndOf question.destination packet.destination
  pub listed : Contains (families_between lists packet.source packet.destination) packet.family
  pub spot : is_spot packet.spot ≡ true
  pub broken : breaks question.wanted question.conns (allows_between lists packet.source packet.destination packet.family) packet.spot ≡ true

-- Such a packet, and no other one comes before it: none is from an earlier source; from the same source none goes to an
-- earlier destination; between the same ends none is of an earlier family; in the same family none is of an earlier
-- protocol; and in the same protocol none is to a lower port.
pub record IsFirstBroken (lists : EstateLists) (question : Question) (first : Counterexample) : Type 0 where
  pub own : IsBroken lists question first
  pub by_source : (other : Counterexample) → IsBroken lists question other → comes_before other.source first.source ≡ false
  pub by_destination : (other : Counterexample) → IsBroken lists question other → other.source ≡ first.source → comes_before other.destination first.destination ≡ false
  pub by_family : (other : Counterexample) → IsBroken lists question other → other.source ≡ first.source → other.destination ≡ first.destination → family_before other.family first.family ≡ false
  pub by_proto : (other : Counterexample) → IsBroken lists question other → other.source ≡ first.source → other.destination ≡ first.destination → other.family ≡ first.family
      → proto_before other.spot.proto first.spot.proto ≡ false
  pub by_port : (other : Counterexample) → IsBroken lists question other → other.source ≡ first.source → other.destination ≡ first.destination → other.family ≡ first.family
      → other.spot.proto ≡ first.spot.proto → first.spot.port ≤ other.spot.port
