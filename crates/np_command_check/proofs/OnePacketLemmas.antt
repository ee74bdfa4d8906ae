-- A statement has one first packet that breaks it. For OneFindingLemmas.
use Rattle.std.proofs.Common.{◌≡◌, ℕ, nat_lt, false, refl, sym, ap, arith}
use Rattle.std.proofs.lemmas.Bool.{true≢false}
use Rattle.np_addr.specs.declared.address.Address.{Address}
use Rattle.np_addr.specs.declared.address.Address.TheVariants as address
use Rattle.np_addr.specs.declared.address.Family.{Family}
use Rattle.np_addr.specs.declared.address.Family.TheVariants.{Four, Six}
use Rattle.np_check.specs.Prelude.{address_before, comes_before, family_before, proto_before}
use Rattle.np_command_check.specs.Prelude.{At, BreaksFirst, Counterexample, EstateLists, PlaceEnd, StatementText, Work}
use Rattle.np_conns.specs.declared.proto.Proto.{Proto}
use Rattle.np_conns.specs.declared.proto.Proto.TheVariants.{Tcp, Udp, Sctp}

-- ---- of two things that are not one, one comes before the other

one-number : (m n : ℕ) → nat_lt m n ≡ false → nat_lt n m ≡ false → m ≡ n
one-number m n first second = grind arith

one-address : (one other : Address) → address_before one other ≡ false → address_before other one ≡ false → one ≡ other
one-address (address.Four m) (address.Four n) first second = ap address.Four (one-number m n first second)
one-address (address.Four m) (address.Six n) first second = absurd (true≢false first)
one-address (address.Six m) (address.Four n) first second = absurd (true≢false second)
one-address (address.Six m) (address.Six n) first second = ap address.Six (one-number m n first second)

one-end : (one other : PlaceEnd) → comes_before one other ≡ false → comes_before other one ≡ false → one ≡ other
one-end (Work m) (Work n) first second = ap Work (one-number m n first second)
one-end (Work m) (At other) first second = absurd (true≢false first)
one-end (At one) (Work n) first second = absurd (true≢false second)
one-end (At one) (At other) first second = ap At (one-address one other first second)

one-family : (one other : Family) → family_before one other ≡ false → family_before other one ≡ false → one ≡ other
one-family Four Four first second = refl
one-family Four Six first second = absurd (true≢false first)
one-family Six Four first second = absurd (true≢false second)
one-family Six Six first second = refl

one-proto : (one other : Proto) → proto_before one other ≡ false → proto_before other one ≡ false → one ≡ other
one-proto Tcp Tcp first second = refl
one-proto Udp Udp first second = refl
one-proto Sctp Sctp first second = refl
one-proto Tcp other first second = absurd (cc)
one-proto one Tcp first second = absurd (cc)
one-proto Udp Sctp first second = absurd (true≢false first)
one-proto Sctp Udp first second = absurd (true≢false second)

-- ---- the first packet

packet-equal : (one other : Counterexample) → one.source ≡ other.source → one.destination ≡ other.destination → one.family ≡ other.family → one.spot.proto ≡ other.spot.proto →
    one.spot.port ≡ other.spot.port → one ≡ other
packet-equal one other source destination family proto port = grind arith

pub one-packet : (lists : EstateLists) (statement : StatementText) (one other : Counterexample) → BreaksFirst lists statement one → BreaksFirst lists statement other → one ≡ other
one-packet lists statement one other is is' =
    let source = one-end one.source other.source (is'.by_source one is.own) (is.by_source other is'.own) in
    let destination = one-end one.destination other.destination (is'.by_destination one is.own source) (is.by_destination other is'.own (sym source)) in
    let family = one-family one.family other.family (is'.by_family one is.own source destination) (is.by_family other is'.own (sym source) (sym destination)) in
    let proto = one-proto one.spot.proto other.spot.proto (is'.by_proto one is.own source destination family) (is.by_proto other is'.own (sym source) (sym destination) (sym family)) in
    let below = is'.by_port one is.own source destination family proto in
    let above = is.by_port other is'.own (sym source) (sym destination) (sym family) (sym proto) in
    packet-equal one other source destination family proto (omega (arith, below, above))
