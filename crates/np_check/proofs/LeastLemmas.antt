-- What is found is the first packet that breaks the statement. For `the_first_packet_is_found` and crates above.
use Rattle.std.proofs.Common.{◌≡◌, ℕ, ◌≤◌, nat_le, [], ◌∷◌, Bool, true, false, Option, Some, None, Contains, option_map, refl, sym, ap, subst, ◌∙◌, inl, inr, arith}
use Rattle.std.proofs.lemmas.Bool.{and_from, and_parts, cases_Bool, cases_lt, le-leb, leb-true, true≢false}
use Rattle.np_check.specs.Prelude.{Counterexample, EstateLists, Family, IsBroken, IsFirstBroken, PlaceEnd, PortSpot, Proto, Question, Sctp, Tcp, Udp, allows_between, breaks, comes_before, counterexample_at, counterexample_between, counterexample_from, counterexample_in, counterexample_of, families_between, family_before, first_of_ports, first_of_proto, first_spot, is_ascending, places_of, proto_before}
use Rattle.np_check.proofs.FirstLemmas.{IsFound, found-is}
use Rattle.np_check.proofs.NoneLemmas.{no_port, no_spot, none_at, none_map}
use Rattle.np_check.proofs.OrderLemmas.{between_sorted, found_of, in_places, places_are, places_sorted, proto_in, protos_sorted}
use Rattle.np_check.proofs.SortedLemmas.{strict_ends, strict_families, strict_protos}
use Rattle.np_conns.specs.Prelude.{is_spot}

-- ---- where nothing is found no packet is broken

at_odds : (b : Bool) → b ≡ true → b ≡ false → ⊥
at_odds b yes_it no_it = true≢false (sym yes_it ∙ no_it)

spot_none : (passes : PortSpot → Bool) (spot : PortSpot) → first_spot passes ≡ None → is_spot spot ≡ true → passes spot ≡ true → ⊥
spot_none passes spot none is does = at_odds (passes spot) does (no_spot passes spot none is)

in_none : (lists : EstateLists) (question : Question) (packet : Counterexample) → IsBroken lists question packet →
    counterexample_in lists question.wanted question.conns packet.source packet.destination packet.family ≡ None → ⊥
in_none lists question packet is none =
    spot_none (breaks question.wanted question.conns (allows_between lists packet.source packet.destination packet.family)) packet.spot
    (none_map (counterexample_at packet.source packet.destination packet.family)
    (first_spot (breaks question.wanted question.conns (allows_between lists packet.source packet.destination packet.family))) none) is.spot is.broken

between_none : (lists : EstateLists) (question : Question) (packet : Counterexample) → IsBroken lists question packet →
    counterexample_between lists question.wanted question.conns packet.source packet.destination ≡ None → ⊥
unfolding counterexample_between
between_none lists question packet is none =
    in_none lists question packet is (none_at (counterexample_in lists question.wanted question.conns packet.source packet.destination)
    (families_between lists packet.source packet.destination) packet.family none is.listed)

from_none : (lists : EstateLists) (question : Question) (packet : Counterexample) → IsBroken lists question packet →
    counterexample_from lists question.wanted question.conns question.destination packet.source ≡ None → ⊥
unfolding counterexample_from
from_none lists question packet is none =
    between_none lists question packet is (none_at (counterexample_between lists question.wanted question.conns packet.source) (places_of question.destination) packet.destination none
    (in_places question.destination packet.destination is.to))

pub nothing_broken : (lists : EstateLists) (question : Question) (packet : Counterexample) → counterexample_of lists question ≡ None → IsBroken lists question packet → ⊥
unfolding counterexample_of
nothing_broken lists question packet none is =
    from_none lists question packet is (none_at (counterexample_from lists question.wanted question.conns question.destination) (places_of question.source) packet.source none
    (in_places question.source packet.source is.from))

-- ---- the first protocol and port

record IsFirstSpot (passes : PortSpot → Bool) (spot : PortSpot) : Type 0 where
  is : is_spot spot ≡ true
  does : passes spot ≡ true
  by_proto : (other : PortSpot) → is_spot other ≡ true → passes other ≡ true → proto_before other.proto spot.proto ≡ false
  by_port : (other : PortSpot) → is_spot other ≡ true → passes other ≡ true → other.proto ≡ spot.proto → spot.port ≤ other.port

record IsFirstPort (passes : PortSpot → Bool) (proto : Proto) (first count : ℕ) (spot : PortSpot) : Type 0 where
  port : ℕ
  spot_is : spot ≡ record { proto = proto; port = port }
  found : IsFound (λ n. passes (record { proto = proto; port = n })) first count port

some_map : {X Y : Type 0} (to : X → Y) (found : Option X) (y : Y) → option_map to found ≡ Some y → (x : X) × (found ≡ Some x) × (y ≡ to x)
some_map to None y is = cc
some_map to (Some x) y is = (x, refl, cc)

first_port : (passes : PortSpot → Bool) (proto : Proto) (first count : ℕ) (spot : PortSpot) → first_of_ports passes proto first count ≡ Some spot → IsFirstPort passes proto first count spot
unfolding first_of_ports
first_port passes proto first count spot is =
    let (port, found, of) = some_map (λ n. record { proto = proto; port = n }) _ spot is in
    record { port = port; spot_is = of; found = found-is (λ n. passes (record { proto = proto; port = n })) first count port found }

proto_none : (passes : PortSpot → Bool) (other : PortSpot) → is_spot other ≡ true → passes other ≡ true → first_of_proto passes other.proto ≡ None → ⊥
proto_none passes other is does none =
    let parts = and_parts (nat_le 1 other.port) (nat_le other.port 65535) is in
    at_odds (passes other) does (no_port passes other.proto 1 65535 other.port none (leb-true 1 other.port parts.0) (omega (arith, leb-true other.port 65535 parts.1)))

spot_first : (passes : PortSpot → Bool) (spot : PortSpot) → first_spot passes ≡ Some spot → IsFirstSpot passes spot
unfolding first_spot
spot_first passes spot found =
    let of = found_of proto_before (first_of_proto passes) (Tcp ∷ Udp ∷ Sctp ∷ []) spot strict_protos protos_sorted found in
    let port = first_port passes of.item 1 65535 spot of.found in
    let proto_is : spot.proto ≡ of.item = ap (λ (s : PortSpot). s.proto) port.spot_is in
    let port_is : spot.port ≡ port.port = ap (λ (s : PortSpot). s.port) port.spot_is in
    record {
      is = and_from (nat_le 1 spot.port) (nat_le spot.port 65535) (le-leb 1 spot.port (omega (arith, port.found.above))) (le-leb spot.port 65535 (omega (arith, port.found.below)));
      does = ap passes port.spot_is ∙ port.found.passes;
      by_proto = λ other is does. elim (cases_Bool (proto_before other.proto spot.proto)) [
        | inl earlier ↦ absurd (proto_none passes other is does (of.none other.proto (proto_in other.proto) (sym (ap (proto_before other.proto) proto_is) ∙ earlier)))
        | inr later ↦ later
      ];
      by_port = λ other is does same. elim (cases_lt other.port spot.port) [
        | inl lower ↦
            let parts = and_parts (nat_le 1 other.port) (nat_le other.port 65535) is in
            let own : other ≡ record { proto = of.item; port = other.port } = ap (λ (proto : Proto). record { proto = proto; port = other.port }) (same ∙ proto_is) in
            absurd (at_odds (passes other) does (ap passes own ∙ port.found.before other.port (leb-true 1 other.port parts.0) (omega arith)))
        | inr higher ↦ higher
      ];
    }

-- ---- the first packet

not_before : {X : Type 0} (before : X → X → Bool) (one first : X) → (before one first ≡ true → ⊥) → before one first ≡ false
not_before before one first never = elim (cases_Bool (before one first)) [ inl earlier ↦ absurd (never earlier) | inr later ↦ later ]

moved : (lists : EstateLists) (question : Question) (other : Counterexample) (source destination : PlaceEnd) (family : Family) → other.source ≡ source → other.destination ≡ destination →
    other.family ≡ family → breaks question.wanted question.conns (allows_between lists other.source other.destination other.family) other.spot ≡ true →
    breaks question.wanted question.conns (allows_between lists source destination family) other.spot ≡ true
moved lists question other source destination family same same' same'' does =
    sym (ap (λ (end : PlaceEnd). breaks question.wanted question.conns (allows_between lists end other.destination other.family) other.spot) same
    ∙ ap (λ (end : PlaceEnd). breaks question.wanted question.conns (allows_between lists source end other.family) other.spot) same'
    ∙ ap (λ (one : Family). breaks question.wanted question.conns (allows_between lists source destination one) other.spot) same'')
    ∙ does

pub first_broken : (lists : EstateLists) (question : Question) (first : Counterexample) → is_ascending question.source.works ≡ true → is_ascending question.destination.works ≡ true →
    counterexample_of lists question ≡ Some first → IsFirstBroken lists question first
unfolding counterexample_of counterexample_from counterexample_between
first_broken lists question first sources destinations found =
    let wanted = question.wanted in
    let conns = question.conns in
    let s = found_of comes_before (counterexample_from lists wanted conns question.destination) (places_of question.source) first strict_ends (places_sorted question.source sources) found in
    let d = found_of comes_before (counterexample_between lists wanted conns s.item) (places_of question.destination) first strict_ends (places_sorted question.destination destinations) s.found in
    let f = found_of family_before (counterexample_in lists wanted conns s.item d.item) (families_between lists s.item d.item) first strict_families (between_sorted lists s.item d.item) d.found in
    let (spot, spot_found, is) = some_map (counterexample_at s.item d.item f.item) (first_spot (breaks wanted conns (allows_between lists s.item d.item f.item))) first f.found in
    let p = spot_first (breaks wanted conns (allows_between lists s.item d.item f.item)) spot spot_found in
    let source_is : first.source ≡ s.item = ap (λ (c : Counterexample). c.source) is in
    let destination_is : first.destination ≡ d.item = ap (λ (c : Counterexample). c.destination) is in
    let family_is : first.family ≡ f.item = ap (λ (c : Counterexample). c.family) is in
    let own : IsBroken lists question (counterexample_at s.item d.item f.item spot) = record {
      from = places_are question.source s.item s.one;
      to = places_are question.destination d.item d.one;
      listed = f.one;
      spot = p.is;
      broken = p.does;
    } in
    subst (IsFirstBroken lists question) (sym is) (record {
      own = own;
      by_source = λ other broken. not_before comes_before other.source s.item
          (λ earlier. from_none lists question other broken (s.none other.source (in_places question.source other.source broken.from) earlier));
      by_destination = λ other broken same. not_before comes_before other.destination d.item (λ earlier.
          between_none lists question other broken (ap (λ (end : PlaceEnd). counterexample_between lists wanted conns end other.destination) same ∙ d.none other.destination
          (in_places question.destination other.destination broken.to) earlier));
      by_family = λ other broken same same'. not_before family_before other.family f.item (λ earlier.
          let listed = subst (λ (end : PlaceEnd). Contains (families_between lists s.item end) other.family) same'
          (subst (λ (end : PlaceEnd). Contains (families_between lists end other.destination) other.family) same broken.listed) in
          in_none lists question other broken
          (ap (λ (end : PlaceEnd). counterexample_in lists wanted conns end other.destination other.family) same ∙ ap (λ (end : PlaceEnd). counterexample_in lists wanted conns s.item end other.family) same'
          ∙ f.none other.family listed earlier));
      by_proto = λ other broken same same' same''. p.by_proto other.spot broken.spot (moved lists question other s.item d.item f.item same same' same'' broken.broken);
      by_port = λ other broken same same' same'' proto. p.by_port other.spot broken.spot (moved lists question other s.item d.item f.item same same' same'' broken.broken) proto;
    })
