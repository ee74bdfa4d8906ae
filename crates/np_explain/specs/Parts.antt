-- One set of spots for each decider. `decides` says what decides a spot.
use Rattle.std.specs.Prelude.{◌≡◌, ◌≢◌, ◌↔◌, ℕ, ◌+◌, ◌*◌, ◌<◌, List, true, IsTrue, All, AllPairs}
use Rattle.std.specs.List.{list_any}
use Rattle.np_conns.specs.Prelude.{Conns, IsConns, has_spot, is_spot, proto_number}
use Rattle.np_explain.specs.Types.{Decider, Part, PortSpot}

-- ---- the order of spots

-- the spots in their order: those of TCP, of UDP, of SCTP, and each protocol's by their ports
abbrev pub spot_number : PortSpot → ℕ
spot_number spot = 65536 * proto_number spot.proto + spot.port

-- some spot of one set stands before all of the other
pub record StartsBefore (one other : Conns) : Type 0 where
  pub spot : PortSpot
  pub has : has_spot one spot ≡ true
  pub first : (later : PortSpot) → has_spot other later ≡ true → spot_number spot < spot_number later

-- ---- the right parts

-- Each part has exactly the spots that its decider decides, of which there is one at least. Each spot is in some part, no
-- two parts have one decider, and they stand in the order of their least spots.
pub record AreRightParts (decides : PortSpot → Decider) (parts : List Part) : Type 0 where
  pub spots : All (λ part. (spot : PortSpot) → is_spot spot ≡ true → IsTrue (has_spot part.conns spot) ↔ (decides spot ≡ part.decider)) parts
  pub all : (spot : PortSpot) → is_spot spot ≡ true → list_any (λ part. has_spot part.conns spot) parts ≡ true
  pub distinct : AllPairs (λ a b. a.decider ≢ b.decider) parts
  pub filled : All (λ part. (spot : PortSpot) × (has_spot part.conns spot ≡ true)) parts
  pub well : All (λ part. IsConns part.conns) parts
  pub ordered : AllPairs (λ a b. StartsBefore a.conns b.conns) parts
