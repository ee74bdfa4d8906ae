-- The connections of rows and of pairs are runs of ports. For FlatLemmas.
use Rattle.std.proofs.Common.{ℕ, ◌+◌, ◌-◌, ◌^◌, List, [], ◌∷◌, Bool, map, Option, Some, None, lit≤, subst, arith}
use Rattle.std.specs.List.{AllByRecursion}
use Rattle.np_base.proofs.Each.{All-append}
use Rattle.np_addr.specs.declared.address.Family.{Family}
use Rattle.np_addr.specs.declared.address.Family.TheVariants.{Four, Six}
use Rattle.np_conns.specs.Prelude.{Conns, IsRun, conns_of}
use Rattle.np_conns.specs.declared.port_spot.PortSpot.{PortSpot}
use Rattle.np_command_flatten.specs.Prelude.{AddressRow, Sctp, Tcp, Udp}
use Rattle.np_conns.proofs.RunLemmas.{IsRun-from_ascending, runs-ascend}
use Rattle.np_table.proofs.RangeWalks.{walk-right}
use Rattle.np_table.specs.Prelude.{AreRight, Stretch, address_row, four_of, rows_of_addresses, six_of, walk}
use Rattle.np_command_flatten.proofs.ShapeLemmas.{all-mapped}

-- runs of ports of each protocol
pub record AreRuns (conns : Conns) : Type 0 where
  pub tcp : AllByRecursion IsRun conns.tcp
  pub udp : AllByRecursion IsRun conns.udp
  pub sctp : AllByRecursion IsRun conns.sctp

pub conns_of-runs : (passes : PortSpot → Bool) → AreRuns (conns_of passes)
conns_of-runs passes = record {
  tcp = IsRun-from_ascending 1 _ (lit≤ tt) (runs-ascend (λ port. passes (record { proto = Tcp; port = port })));
  udp = IsRun-from_ascending 1 _ (lit≤ tt) (runs-ascend (λ port. passes (record { proto = Udp; port = port })));
  sctp = IsRun-from_ascending 1 _ (lit≤ tt) (runs-ascend (λ port. passes (record { proto = Sctp; port = port })));
}

-- each stretch of a right list has the connections of its first number
stretches-runs : (passes : ℕ → PortSpot → Bool) (from to : ℕ) (before : Option Conns) (stretches : List Stretch) → AreRight passes from to before stretches →
    AllByRecursion (λ stretch. AreRuns stretch.conns) stretches
stretches-runs passes from to before [] are = tt
stretches-runs passes from to before (stretch ∷ stretches) are =
    (subst AreRuns (are.0.conns stretch.lo (omega arith) are.0.filled) (conns_of-runs (passes stretch.lo)), stretches-runs passes (stretch.hi + 1) to (Some stretch.conns) stretches are.1)

pub rows-runs : (passes : Family → ℕ → PortSpot → Bool) → AllByRecursion (λ (row : AddressRow). AreRuns row.conns) (rows_of_addresses passes)
rows-runs passes =
    let four = walk (passes Four) 0 (2 ^ 32 - 1) in
    let six = walk (passes Six) 0 (2 ^ 128 - 1) in
    let runs : AddressRow → Type 0 = λ row. AreRuns row.conns in
    All-append runs (map (address_row four_of) four) (map (address_row six_of) six)
    (all-mapped runs (address_row four_of) four (stretches-runs (passes Four) 0 (2 ^ 32 - 1 + 1) None four (walk-right (passes Four) 0 (2 ^ 32 - 1) (lit≤ tt))))
    (all-mapped runs (address_row six_of) six (stretches-runs (passes Six) 0 (2 ^ 128 - 1 + 1) None six (walk-right (passes Six) 0 (2 ^ 128 - 1) (lit≤ tt))))
