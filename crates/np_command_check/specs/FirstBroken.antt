-- The first statement that does not hold, and the first packet that breaks it.
use Rattle.std.specs.Prelude.{ℕ, ◌≡◌, ◌≤◌, List, ◌∷◌, ◌++◌, false, All, Contains}
use Rattle.np_check.specs.Prelude.{allows_between, comes_before, complies, families_between, family_before, proto_before}
use Rattle.np_command_check.specs.Types.{At, Broken, Counterexample, EndForm, EstateLists, PlaceEnd, StatementLine, StatementText, Work}
use Rattle.np_fold.specs.Prelude.{workload_number}
use Rattle.np_statements.specs.Prelude.{IsAtPort, IsNamedAddress, IsNamedPod, LineHolds}

-- the form names an end of a packet: some pod of the workload, or the address
abbrev pub NamesPlace : EstateLists → EndForm → PlaceEnd → Type 0
NamesPlace lists form (Work work) = (place : ℕ) × IsNamedPod lists form place × (workload_number lists place ≡ work)
NamesPlace lists form (At address) = IsNamedAddress form address

-- the statement speaks of the packet, and whether it is allowed is not what it wants
pub record Breaks (lists : EstateLists) (statement : StatementText) (packet : Counterexample) : Type 0 where
  pub from : NamesPlace lists statement.source packet.source
  pub to : NamesPlace lists statement.destination packet.destination
  pub listed : Contains (families_between lists packet.source packet.destination) packet.family
  pub at_port : IsAtPort statement packet.spot
  pub unwanted : complies statement.wanted (allows_between lists packet.source packet.destination packet.family packet.spot) ≡ false

-- Such a packet, and no other one comes before it: none is from an earlier source; from the same source none goes to an
-- earlier destination; between the same ends none is of an earlier family; in the same family none is of an earlier
-- protocol; and in the same protocol none is to a lower port.
pub record BreaksFirst (lists : EstateLists) (statement : StatementText) (first : Counterexample) : Type 0 where
  pub own : Breaks lists statement first
  pub by_source : (other : Counterexample) → Breaks lists statement other → comes_before other.source first.source ≡ false
  pub by_destination : (other : Counterexample) → Breaks lists statement other → other.source ≡ first.source → comes_before other.destination first.destination ≡ false
  pub by_family : (other : Counterexample) → Breaks lists statement other → other.source ≡ first.source → other.destination ≡ first.destination → family_before other.family first.family ≡ false
  pub by_proto : (other : Counterexample) → Breaks lists statement other → other.source ≡ first.source → other.destination ≡ first.destination → other.family ≡ first.family
      → proto_before other.spot.proto first.spot.proto ≡ false
  pub by_port : (other : Counterexample) → Breaks lists statement other → other.source ≡ first.source → other.destination ≡ first.destination → other.family ≡ first.family
      → other.spot.proto ≡ first.spot.proto → first.spot.port ≤ other.spot.port

-- The statements before that of the line hold, and that one does not: this packet is the first that breaks it, with its verdict.
pub record IsFirstBrokenLine (lists : EstateLists) (lines : List StatementLine) (broken : Broken) : Type 0 where
  pub before : List StatementLine
  pub line : StatementLine
  pub behind : List StatementLine
  pub place : lines ≡ before ++ line ∷ behind
  pub number : broken.line ≡ line.line
  pub earlier_hold : All (LineHolds lists) before
  pub fails : LineHolds lists line → ⊥
  pub first : BreaksFirst lists line.statement broken.packet
  pub verdict : broken.allowed ≡ allows_between lists broken.packet.source broken.packet.destination broken.packet.family broken.packet.spot
