-- The sides that the code asks for a pair of workloads.
use Rattle.std.specs.Prelude.{ℕ, ◌≡◌, true}
use Rattle.np_conns.specs.Prelude.{Conns, conns_of}
use Rattle.np_fold.specs.Prelude.{folding_of}
use Rattle.np_kinds.specs.Prelude.{IsWorkload, KnownSides, between_pods, destination_pod, first_side, kind_side, knows}
use Rattle.np_table.specs.Types.{Egress, EstateLists, Family, Ingress, PairEnds}
use Rattle.np_rules.specs.Prelude.{side_of}

-- the sides of the pods that stand for two workloads
abbrev pub ends_of : EstateLists → ℕ → ℕ → PairEnds
ends_of lists source destination = record { sender = first_side lists Egress source; receiver = side_of lists (destination_pod (folding_of lists) source destination) Ingress }

-- the rules of the kinds of two workloads are known, of the one as it sends and of the other as it receives
pub record KnowsPair (sides : KnownSides) (source destination : ℕ) : Type 0 where
  pub source_in : IsWorkload sides.lists source
  pub destination_in : IsWorkload sides.lists destination
  pub sends : knows sides Egress source ≡ true
  pub receives : knows sides Ingress destination ≡ true

-- what passes between the pods that stand for the kinds of two workloads
abbrev pub conns_of_kinds : EstateLists → ℕ → ℕ → Family → Conns
conns_of_kinds lists source destination family = conns_of (between_pods lists (kind_side lists Egress source).pod (kind_side lists Ingress destination).pod family)
