-- The least spot of a set. For PartLemmas.
use Rattle.std.proofs.Common.{◌≡◌, ℕ, ◌+◌, ◌*◌, ◌≤◌, List, [], ◌∷◌, Bool, true, ◌||◌, refl, ap, ◌∙◌, arith}
use Rattle.std.proofs.lemmas.Bool.{and_parts, leb-true, false≢true}
use Rattle.np_base.proofs.Ranges.{is_within-inside}
use Rattle.np_base.specs.Ranges.{IsAscending, holds}
use Rattle.np_explain.specs.Prelude.{PortSpot, Proto, Range, Sctp, Tcp, Udp, first_number, first_or, spot_number}
use Rattle.np_conns.specs.Prelude.{AscendsInPorts, Conns, IsConns, has_spot, is_spot, proto_number, ranges_of}
use Rattle.np_sets.specs.Laws.{holds-from}

-- ---- ports of one protocol

abbrev has_port : List (Range ℕ) → ℕ → Bool
has_port ranges port = holds (λ p. p) ranges port

-- the first port of a list that is not empty is one of its ports, and none of them is less
first_held : (run : Range ℕ) (runs : List (Range ℕ)) → AscendsInPorts (run ∷ runs) → has_port (run ∷ runs) run.lo ≡ true
first_held run runs ascends = ap (λ b. b || has_port runs run.lo) (is_within-inside (λ p. p) run run.lo (omega arith) ascends.1)

first_least : (run : Range ℕ) (runs : List (Range ℕ)) (port : ℕ) → AscendsInPorts (run ∷ runs) → has_port (run ∷ runs) port ≡ true → run.lo ≤ port
first_least run runs port ascends held =
    let here : IsAscending (λ p. p) run.lo 65535 (run ∷ runs) = (omega arith, ascends.1, ascends.2, ascends.3) in
    holds-from (λ p. p) run.lo 65535 (run ∷ runs) port here held

none_held : {A : Type 0} (port : ℕ) → has_port [] port ≡ true → A
none_held port held = absurd (false≢true held)

-- ---- spots

-- a spot of the set has the number, and no spot of it a lesser one
pub record IsFirst (conns : Conns) (number : ℕ) : Type 0 where
  pub spot : PortSpot
  pub has : has_spot conns spot ≡ true
  pub is : spot_number spot ≡ number
  pub least : (other : PortSpot) → has_spot conns other ≡ true → number ≤ spot_number other

-- by the ports of each protocol
by_protos : (conns : Conns) (proto : Proto) (port number : ℕ) → has_port (ranges_of conns proto) port ≡ true → 65536 * proto_number proto + port ≡ number →
    ((other : ℕ) → has_port conns.tcp other ≡ true → number ≤ other) → ((other : ℕ) → has_port conns.udp other ≡ true → number ≤ 65536 + other) →
    ((other : ℕ) → has_port conns.sctp other ≡ true → number ≤ 131072 + other) → IsFirst conns number
by_protos conns proto port number held is tcp udp sctp = record {
  spot = record { proto = proto; port = port };
  has = held;
  is = is;
  least = λ other has. each other.proto other.port has;
}
  where
    each : (p : Proto) (other : ℕ) → has_port (ranges_of conns p) other ≡ true → number ≤ 65536 * proto_number p + other
    each Tcp other has = omega (arith, tcp other has)
    each Udp other has = omega (arith, udp other has)
    each Sctp other has = omega (arith, sctp other has)

of_lists : (tcp udp sctp : List (Range ℕ)) → AscendsInPorts tcp → AscendsInPorts udp → AscendsInPorts sctp → (spot : PortSpot) → has_spot (record { tcp = tcp; udp = udp; sctp = sctp }) spot ≡ true →
    IsFirst (record { tcp = tcp; udp = udp; sctp = sctp }) (first_or tcp 0 (first_or udp 65536 (first_or sctp 131072 0)))
of_lists (run ∷ runs) udp sctp in_tcp in_udp in_sctp spot has =
    by_protos (record { tcp = run ∷ runs; udp = udp; sctp = sctp }) Tcp run.lo (0 + run.lo) (first_held run runs in_tcp) (omega arith)
    (λ other held. omega (arith, first_least run runs other in_tcp held)) (λ other held. omega (arith, in_tcp.1, in_tcp.2)) (λ other held. omega (arith, in_tcp.1, in_tcp.2))
of_lists [] (run ∷ runs) sctp in_tcp in_udp in_sctp spot has =
    by_protos (record { tcp = []; udp = run ∷ runs; sctp = sctp }) Udp run.lo (65536 + run.lo) (first_held run runs in_udp) (omega arith)
    (λ other held. none_held other held) (λ other held. omega (arith, first_least run runs other in_udp held)) (λ other held. omega (arith, in_udp.1, in_udp.2))
of_lists [] [] (run ∷ runs) in_tcp in_udp in_sctp spot has =
    by_protos (record { tcp = []; udp = []; sctp = run ∷ runs }) Sctp run.lo (131072 + run.lo) (first_held run runs in_sctp) (omega arith)
    (λ other held. none_held other held) (λ other held. none_held other held) (λ other held. omega (arith, first_least run runs other in_sctp held))
of_lists [] [] [] in_tcp in_udp in_sctp spot has = none spot.proto spot.port has
  where
    none : {A : Type 0} (proto : Proto) (port : ℕ) → has_port (ranges_of (record { tcp = []; udp = []; sctp = [] }) proto) port ≡ true → A
    none Tcp port held = none_held port held
    none Udp port held = none_held port held
    none Sctp port held = none_held port held

-- the first number of a set that has a spot
pub first_is : (conns : Conns) → IsConns conns → (spot : PortSpot) → has_spot conns spot ≡ true → IsFirst conns (first_number conns)
first_is conns well spot has = of_lists conns.tcp conns.udp conns.sctp well.tcp well.udp well.sctp spot has

-- ---- numbers tell spots apart

port_high : (spot : PortSpot) → is_spot spot ≡ true → spot.port ≤ 65535
port_high spot within = leb-true spot.port 65535 (and_parts _ _ within).1

by_numbers : (p q : Proto) (m n : ℕ) → m ≤ 65535 → n ≤ 65535 → 65536 * proto_number p + m ≡ 65536 * proto_number q + n → (p ≡ q) × (m ≡ n)
by_numbers Tcp Tcp m n low high same = (refl, omega arith)
by_numbers Udp Udp m n low high same = (refl, omega arith)
by_numbers Sctp Sctp m n low high same = (refl, omega arith)
by_numbers Tcp Udp m n low high same = absurd (omega arith)
by_numbers Tcp Sctp m n low high same = absurd (omega arith)
by_numbers Udp Tcp m n low high same = absurd (omega arith)
by_numbers Udp Sctp m n low high same = absurd (omega arith)
by_numbers Sctp Tcp m n low high same = absurd (omega arith)
by_numbers Sctp Udp m n low high same = absurd (omega arith)

pub numbers_tell : (s t : PortSpot) → is_spot s ≡ true → is_spot t ≡ true → spot_number s ≡ spot_number t → s ≡ t
numbers_tell s t in_s in_t same =
    let parts = by_numbers s.proto t.proto s.port t.port (port_high s in_s) (port_high t in_t) same in
    let of_proto : Proto → PortSpot = λ p. record { proto = p; port = s.port } in
    let of_port : ℕ → PortSpot = λ n. record { proto = t.proto; port = n } in
    ap of_proto parts.0 ∙ ap of_port parts.1
