-- All spots, and their order. For RightPartsLemmas and crates above.
use Rattle.std.proofs.Common.{◌≡◌, ℕ, ◌+◌, ◌*◌, ◌-◌, ◌<◌, ◌≤◌, [], ◌++◌, true, All, AllPairs, arith, refl}
use Rattle.std.proofs.lemmas.Bool.{and_from, and_parts, le-leb, leb-true}
use Rattle.std.proofs.lemmas.List.Elements.{All-append, All-contains, All-nil, All-weaker, Contains-append_left, Contains-append_right}
use Rattle.std.proofs.lemmas.List.FromFn.{get_or-map-range_with_len, length-map-range_with_len}
use Rattle.std.specs.List.{Contains}
use Rattle.np_base.proofs.Lists.{AllPairs-append}
use Rattle.np_addr.proofs.Pairs.{AllPairs-nil}
use Rattle.np_conns.specs.Prelude.{is_spot, proto_number}
use Rattle.np_explain.specs.Prelude.{PortSpot, Proto, Sctp, Tcp, Udp, all_spots, spot_number, spots_from}

abbrev spot_at : Proto → ℕ → PortSpot
spot_at proto port = record { proto = proto; port = port }

abbrev pub IsBefore : PortSpot → PortSpot → Type 0
IsBefore one other = spot_number one < spot_number other

-- ---- those of a protocol, at `count` ports from `first` on

module _ (proto : Proto) (first count : ℕ) where
  from_all : (P : PortSpot → Type 0) → ((port : ℕ) → first ≤ port → port < first + count → P (spot_at proto port)) → All P (spots_from proto first count)
  unfolding spots_from
  from_all P each k d within =
      let below : k < count = omega (arith, length-map-range_with_len (spot_at proto) first count) in
      rw (get_or-map-range_with_len (spot_at proto) first count k (first + k) d below refl) (each (first + k) (omega arith) (omega arith))

  from_has : (port : ℕ) → first ≤ port → port < first + count → Contains (spots_from proto first count) (spot_at proto port)
  unfolding spots_from
  from_has port low high = (
    port - first,
    omega (arith, length-map-range_with_len (spot_at proto) first count),
    get_or-map-range_with_len (spot_at proto) first count (port - first) port (spot_at proto port) (omega arith)
        (omega arith),
  )

  from_ascends : AllPairs IsBefore (spots_from proto first count)
  unfolding spots_from
  from_ascends i j d earlier within =
      let below : j < count = omega (arith, length-map-range_with_len (spot_at proto) first count) in
      let before : i < count = omega arith in
      rw (get_or-map-range_with_len (spot_at proto) first count i (first + i) d before refl, get_or-map-range_with_len (spot_at proto) first count j (first + j) d below refl) (omega arith)

-- ---- all of them

-- the numbers of a protocol's spots
IsNumberOf : Proto → PortSpot → Type 0
IsNumberOf proto spot = (65536 * proto_number proto < spot_number spot) × (spot_number spot < 65536 * proto_number proto + 65536)

numbers : (proto : Proto) → All (IsNumberOf proto) (spots_from proto 1 65535)
unfolding IsNumberOf
numbers proto = from_all proto 1 65535 (IsNumberOf proto) (λ port low high. (omega arith, omega arith))

pub all_spots-ascend : AllPairs IsBefore all_spots
unfolding all_spots IsNumberOf
all_spots-ascend =
    AllPairs-append IsBefore (IsNumberOf Tcp) (λ spot. 65536 < spot_number spot) (λ a b of_a of_b. omega arith) (spots_from Tcp 1 65535) (spots_from Udp 1 65535 ++ (spots_from Sctp 1 65535 ++ []))
    (from_ascends Tcp 1 65535)
    (AllPairs-append IsBefore (IsNumberOf Udp) (λ spot. 131072 < spot_number spot) (λ a b of_a of_b. omega arith) (spots_from Udp 1 65535) (spots_from Sctp 1 65535 ++ [])
    (from_ascends Udp 1 65535)
    (AllPairs-append IsBefore (IsNumberOf Sctp) (λ spot. ⊥) (λ a b of_a none. absurd none) (spots_from Sctp 1 65535) [] (from_ascends Sctp 1 65535) (AllPairs-nil IsBefore) (numbers Sctp) (All-nil _))
    (numbers Udp) above_sctp)
    (numbers Tcp)
    (All-append (λ spot. 65536 < spot_number spot) (spots_from Udp 1 65535) (spots_from Sctp 1 65535 ++ [])
    (All-weaker (IsNumberOf Udp) (λ spot. 65536 < spot_number spot) (λ spot of. omega arith) (spots_from Udp 1 65535) (numbers Udp))
    (All-weaker (λ spot. 131072 < spot_number spot) (λ spot. 65536 < spot_number spot) (λ spot of. omega arith) (spots_from Sctp 1 65535 ++ []) above_sctp))
  where
    above_sctp : All (λ spot. 131072 < spot_number spot) (spots_from Sctp 1 65535 ++ [])
    above_sctp =
        All-append (λ spot. 131072 < spot_number spot) (spots_from Sctp 1 65535) []
        (All-weaker (IsNumberOf Sctp) (λ spot. 131072 < spot_number spot) (λ spot of. omega arith) (spots_from Sctp 1 65535) (numbers Sctp))
        (All-nil _)

-- each of them is a spot
from_spots : (proto : Proto) → All (λ spot. is_spot spot ≡ true) (spots_from proto 1 65535)
from_spots proto = from_all proto 1 65535 (λ spot. is_spot spot ≡ true) (λ port low high. and_from _ _ (le-leb 1 port low) (le-leb port 65535 (omega arith)))

pub all_spots-are_spots : (spot : PortSpot) → Contains all_spots spot → is_spot spot ≡ true
unfolding all_spots
all_spots-are_spots spot has =
    All-contains (λ s. is_spot s ≡ true) (spots_from Tcp 1 65535 ++ (spots_from Udp 1 65535 ++ (spots_from Sctp 1 65535 ++ []))) spot
    (All-append (λ s. is_spot s ≡ true) (spots_from Tcp 1 65535) (spots_from Udp 1 65535 ++ (spots_from Sctp 1 65535 ++ [])) (from_spots Tcp)
    (All-append (λ s. is_spot s ≡ true) (spots_from Udp 1 65535) (spots_from Sctp 1 65535 ++ []) (from_spots Udp)
    (All-append (λ s. is_spot s ≡ true) (spots_from Sctp 1 65535) [] (from_spots Sctp) (All-nil _))))
    has

-- and each spot is among them
pub all_spots-has : (spot : PortSpot) → is_spot spot ≡ true → Contains all_spots spot
unfolding all_spots
all_spots-has spot inside = by_proto spot.proto spot.port (leb-true 1 spot.port (and_parts _ _ inside).0) (leb-true spot.port 65535 (and_parts _ _ inside).1)
  where
    by_proto : (proto : Proto) (port : ℕ) → 1 ≤ port → port ≤ 65535 → Contains (spots_from Tcp 1 65535 ++ (spots_from Udp 1 65535 ++ (spots_from Sctp 1 65535 ++ []))) (spot_at proto port)
    by_proto Tcp port low high = Contains-append_left (spots_from Tcp 1 65535) _ _ (from_has Tcp 1 65535 port low (omega arith))
    by_proto Udp port low high =
        Contains-append_right (spots_from Tcp 1 65535) _ _ (Contains-append_left (spots_from Udp 1 65535) _ _ (from_has Udp 1 65535 port low (omega arith)))
    by_proto Sctp port low high =
        Contains-append_right (spots_from Tcp 1 65535) _ _ (Contains-append_right (spots_from Udp 1 65535) _ _
        (Contains-append_left (spots_from Sctp 1 65535) [] _ (from_has Sctp 1 65535 port low (omega arith))))
