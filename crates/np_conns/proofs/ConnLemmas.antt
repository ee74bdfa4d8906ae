-- The spans and the text of connection sets. For `PortSets::spans`, `PortSetsCells::is_empty` and 3 more.
use Rattle.std.proofs.Common.{◌≡◌, ℕ, List, Bool, true, false, ◌&&◌, ◌==◌, refl, not, ◌≤◌, MatchBool, nat_le, sym, ◌∙◌, ap, subst}
use Rattle.std.proofs.lemmas.Bool.{and_from, and_parts, le-leb, leb-true}
use Rattle.std.proofs.lemmas.Bool.Decides.{Decides-and, Decides-eqb}
use Rattle.std.proofs.lemmas.Slice.Eq.{slice_eq-Decides}
use Rattle.std.specs.Bool.{Decides}
use Rattle.std.specs.Cmp.Lexicographic.{pointwise}
use Rattle.np_base.specs.Ranges.{are_same_range, holds}
use Rattle.np_conns.specs.Prelude.{AscendsInPorts, Conns, IsConns, PortSpot, Proto, Range, Sctp, Tcp, Udp, are_same_conns, conns_of, conns_text, equal_by_ranges, has_spot, is_spot, ranges_of, ranges_of-ascend, spans_of, text_of_runs}
use Rattle.np_conns.proofs.RunLemmas.{runs-agree, runs-ascend, runs-hold, runs-holds}

-- sets with equal ranges of each protocol are equal, and a spot of one protocol tells two sets apart
pub same_by_protocols : (a b : Conns) (tcp udp sctp : Bool) → MatchBool tcp (a.tcp ≡ b.tcp) ((port : ℕ) × (holds (λ p. p) a.tcp port ≡ not (holds (λ p. p) b.tcp port))) →
    MatchBool udp (a.udp ≡ b.udp) ((port : ℕ) × (holds (λ p. p) a.udp port ≡ not (holds (λ p. p) b.udp port))) →
    MatchBool sctp (a.sctp ≡ b.sctp) ((port : ℕ) × (holds (λ p. p) a.sctp port ≡ not (holds (λ p. p) b.sctp port))) →
    MatchBool (tcp && udp && sctp) (a ≡ b) ((spot : PortSpot) × (has_spot a spot ≡ not (has_spot b spot)))
same_by_protocols a b true true true on_tcp on_udp on_sctp = equal_by_ranges a b (elim [ Tcp ↦ on_tcp | Udp ↦ on_udp | Sctp ↦ on_sctp ])
same_by_protocols a b true true false on_tcp on_udp on_sctp = (record { proto = Sctp; port = on_sctp.0 }, on_sctp.1)
same_by_protocols a b true false sctp on_tcp on_udp on_sctp = (record { proto = Udp; port = on_udp.0 }, on_udp.1)
same_by_protocols a b false udp sctp on_tcp on_udp on_sctp = (record { proto = Tcp; port = on_tcp.0 }, on_tcp.1)

-- a set without ports of any protocol has no spot
pub empty_by_protocols : (conns : Conns) (tcp udp sctp : Bool) → MatchBool tcp ((port : ℕ) → holds (λ p. p) conns.tcp port ≡ false) ((port : ℕ) × (holds (λ p. p) conns.tcp port ≡ true)) →
    MatchBool udp ((port : ℕ) → holds (λ p. p) conns.udp port ≡ false) ((port : ℕ) × (holds (λ p. p) conns.udp port ≡ true)) →
    MatchBool sctp ((port : ℕ) → holds (λ p. p) conns.sctp port ≡ false) ((port : ℕ) × (holds (λ p. p) conns.sctp port ≡ true)) →
    MatchBool (tcp && udp && sctp) ((spot : PortSpot) → has_spot conns spot ≡ false) ((spot : PortSpot) × (has_spot conns spot ≡ true))
empty_by_protocols conns true true true on_tcp on_udp on_sctp =
    λ spot. elim spot.proto as (λ proto. holds (λ p. p) (ranges_of conns proto) spot.port ≡ false) [ Tcp ↦ on_tcp spot.port | Udp ↦ on_udp spot.port | Sctp ↦ on_sctp spot.port ]
empty_by_protocols conns true true false on_tcp on_udp on_sctp = (record { proto = Sctp; port = on_sctp.0 }, on_sctp.1)
empty_by_protocols conns true false sctp on_tcp on_udp on_sctp = (record { proto = Udp; port = on_udp.0 }, on_udp.1)
empty_by_protocols conns false udp sctp on_tcp on_udp on_sctp = (record { proto = Tcp; port = on_tcp.0 }, on_tcp.1)

-- the ranges of a protocol are the runs of its ports
pub spans_of-by_ranges : (conns : Conns) (proto : Proto) (ranges : List (Range ℕ)) → ranges ≡ ranges_of conns proto → AscendsInPorts ranges → ranges ≡ spans_of (has_spot conns) proto
spans_of-by_ranges conns proto ranges same ascends = same ∙ sym (runs-holds (ranges_of conns proto) (subst AscendsInPorts same ascends))

-- the runs of a set's ports are its ranges
pub spans_of-has_spot : (conns : Conns) → IsConns conns → (proto : Proto) → spans_of (has_spot conns) proto ≡ ranges_of conns proto
spans_of-has_spot conns well proto = runs-holds (ranges_of conns proto) (ranges_of-ascend conns well proto)

-- so its text is that of its ranges
pub conns_text-has_spot : (conns : Conns) → IsConns conns → conns_text (has_spot conns) ≡ text_of_runs conns.tcp conns.udp conns.sctp
unfolding conns_text
conns_text-has_spot conns well =
    ap (λ t. text_of_runs t (spans_of (has_spot conns) Udp) (spans_of (has_spot conns) Sctp)) (spans_of-has_spot conns well Tcp)
    ∙ ap (λ u. text_of_runs conns.tcp u (spans_of (has_spot conns) Sctp)) (spans_of-has_spot conns well Udp)
    ∙ ap (λ s. text_of_runs conns.tcp conns.udp s) (spans_of-has_spot conns well Sctp)

-- tests that agree on all spots have equal runs
pub spans_of-agrees : (f g : PortSpot → Bool) (proto : Proto) → ((spot : PortSpot) → is_spot spot ≡ true → f spot ≡ g spot) → spans_of f proto ≡ spans_of g proto
spans_of-agrees f g proto alike =
    runs-agree (λ port. f (record { proto = proto; port = port })) (λ port. g (record { proto = proto; port = port }))
    (λ port low high. alike (record { proto = proto; port = port }) (and_from _ _ (le-leb 1 port low) (le-leb port 65535 high)))

-- and equal texts
pub conns_text-agrees : (f g : PortSpot → Bool) → ((spot : PortSpot) → is_spot spot ≡ true → f spot ≡ g spot) → conns_text f ≡ conns_text g
unfolding conns_text
conns_text-agrees f g alike =
    ap (λ t. text_of_runs t (spans_of f Udp) (spans_of f Sctp)) (spans_of-agrees f g Tcp alike)
    ∙ ap (λ u. text_of_runs (spans_of g Tcp) u (spans_of f Sctp)) (spans_of-agrees f g Udp alike)
    ∙ ap (λ s. text_of_runs (spans_of g Tcp) (spans_of g Udp) s) (spans_of-agrees f g Sctp alike)

-- ---- the connections of a test

-- their ranges ascend
pub conns_of-well : (passes : PortSpot → Bool) → IsConns (conns_of passes)
conns_of-well passes = record { tcp = runs-ascend _; udp = runs-ascend _; sctp = runs-ascend _ }

-- they have the spots that pass
pub conns_of-has : (passes : PortSpot → Bool) (spot : PortSpot) → is_spot spot ≡ true → has_spot (conns_of passes) spot ≡ passes spot
conns_of-has passes spot inside =
    let ends = and_parts (nat_le 1 spot.port) (nat_le spot.port 65535) inside in
    by spot.port (leb-true 1 spot.port ends.0) (leb-true spot.port 65535 ends.1) spot.proto
  where
    by : (port : ℕ) → 1 ≤ port → port ≤ 65535 → (proto : Proto) → has_spot (conns_of passes) (record { proto = proto; port = port }) ≡ passes (record { proto = proto; port = port })
    by port low high Tcp = runs-hold (λ (n : ℕ). passes (record { proto = Tcp; port = n })) port low high
    by port low high Udp = runs-hold (λ (n : ℕ). passes (record { proto = Udp; port = n })) port low high
    by port low high Sctp = runs-hold (λ (n : ℕ). passes (record { proto = Sctp; port = n })) port low high

-- tests that agree on every spot have the same ones
pub conns_of-agrees : (f g : PortSpot → Bool) → ((spot : PortSpot) → is_spot spot ≡ true → f spot ≡ g spot) → conns_of f ≡ conns_of g
conns_of-agrees f g alike =
    equal_by_ranges (conns_of f) (conns_of g) (elim [
      | Tcp ↦ spans_of-agrees f g Tcp alike
      | Udp ↦ spans_of-agrees f g Udp alike
      | Sctp ↦ spans_of-agrees f g Sctp alike
    ])

-- a well-formed set is the connections of its own spots
pub conns_of-has_spot : (conns : Conns) → IsConns conns → conns_of (has_spot conns) ≡ conns
conns_of-has_spot conns well =
    equal_by_ranges (conns_of (has_spot conns)) conns (elim [
      | Tcp ↦ spans_of-has_spot conns well Tcp
      | Udp ↦ spans_of-has_spot conns well Udp
      | Sctp ↦ spans_of-has_spot conns well Sctp
    ])

-- a well-formed set whose spots are those that pass is the connections of the test
pub conns_of-set : (conns : Conns) (passes : PortSpot → Bool) → IsConns conns → ((spot : PortSpot) → is_spot spot ≡ true → has_spot conns spot ≡ passes spot) → conns ≡ conns_of passes
conns_of-set conns passes well agrees = sym (conns_of-has_spot conns well) ∙ conns_of-agrees (has_spot conns) passes agrees

-- ---- when two sets are the same

pub are_same_range-Decides : (a b : Range ℕ) → Decides (are_same_range a b) (a ≡ b)
are_same_range-Decides a b =
    let ends = Decides-and (a.lo == b.lo) (a.hi == b.hi) (Decides-eqb a.lo b.lo) (Decides-eqb a.hi b.hi) in (
      λ same. let both = ends.0 same in ap (λ (n : ℕ). record { lo = n; hi = a.hi }) both.0 ∙ ap (λ (n : ℕ). record { lo = b.lo; hi = n }) both.1,
      λ same. ends.1 (ap (λ (range : Range ℕ). range.lo) same, ap (λ (range : Range ℕ). range.hi) same),
    )

-- the test of connections tells whether they are equal
pub are_same_conns-Decides : (a b : Conns) → Decides (are_same_conns a b) (a ≡ b)
are_same_conns-Decides a b =
    let tcp = slice_eq-Decides are_same_range-Decides a.tcp b.tcp (pointwise are_same_range a.tcp b.tcp) refl in
    let udp = slice_eq-Decides are_same_range-Decides a.udp b.udp (pointwise are_same_range a.udp b.udp) refl in
    let sctp = slice_eq-Decides are_same_range-Decides a.sctp b.sctp (pointwise are_same_range a.sctp b.sctp) refl in
    let all = Decides-and _ _ (Decides-and _ _ tcp udp) sctp in (
      λ same. let parts = all.0 same in equal_by_ranges a b (elim [ Tcp ↦ parts.0.0 | Udp ↦ parts.0.1 | Sctp ↦ parts.1 ]),
      λ same. all.1 ((ap (λ (conns : Conns). conns.tcp) same, ap (λ (conns : Conns). conns.udp) same), ap (λ (conns : Conns). conns.sctp) same),
    )
