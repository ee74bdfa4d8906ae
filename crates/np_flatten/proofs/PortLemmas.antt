-- Which ports the port entries of a set match. For AddressVerdicts and FlatVerdicts.
use Rattle.std.proofs.Common.{◌≡◌, ℕ, List, [], ◌∷◌, ◌++◌, Bool, true, false, ◌&&◌, ◌||◌, ◌==◌, nat_le, map, if◌then◌else◌, refl, sym, ap, ◌∙◌}
use Rattle.std.specs.List.{list_any}
use Rattle.std.proofs.lemmas.Bool.{and_parts, eqb-true, or_left, true≢false}
use Rattle.std.proofs.lemmas.List.Folds.{list_any-append}
use Rattle.std.proofs.Math.Bool.{or-false}
use Rattle.np_base.specs.Ranges.{holds}
use Rattle.np_flatten.specs.Prelude.{NetPort, PortSpot, Proto, Range, Sctp, Tcp, Udp, ports_of, span_of, spans_of_all}
use Rattle.np_conns.specs.Prelude.{Conns, has_spot, is_spot, is_whole, same_proto}
use Rattle.np_rules.specs.Prelude.{ModelEnd, net_entry_matches, none_or_any}
use Rattle.np_table.specs.Prelude.{has_no_range, is_nothing}

-- ---- lists

is_none-append : {X : Type 0} (xs ys : List X) → has_no_range (xs ++ ys) ≡ (has_no_range xs && has_no_range ys)
is_none-append [] ys = refl
is_none-append (x ∷ xs) ys = refl

pub is_none-map : {X Y : Type 0} (f : X → Y) (xs : List X) → has_no_range (map f xs) ≡ has_no_range xs
is_none-map f [] = refl
is_none-map f (x ∷ xs) = refl

-- items that are there restrict
pub none_or_any-some : {X : Type 0} (p : X → Bool) (xs : List X) → has_no_range xs ≡ false → none_or_any p xs ≡ list_any p xs
none_or_any-some p [] some = absurd (true≢false some)
none_or_any-some p (x ∷ xs) some = refl

spans-some : (conns : Conns) → is_nothing conns ≡ false → has_no_range (spans_of_all conns) ≡ false
spans-some conns some =
    is_none-append (map (span_of Tcp) conns.tcp ++ map (span_of Udp) conns.udp) (map (span_of Sctp) conns.sctp)
    ∙ ap (λ (b : Bool). b && has_no_range (map (span_of Sctp) conns.sctp)) (is_none-append (map (span_of Tcp) conns.tcp) (map (span_of Udp) conns.udp))
    ∙ rw (is_none-map (span_of Tcp) conns.tcp, is_none-map (span_of Udp) conns.udp, is_none-map (span_of Sctp) conns.sctp) some

-- ---- the spans of one protocol

own-spans : (proto : Proto) (runs : List (Range ℕ)) (destination : ModelEnd) (spot : PortSpot) → same_proto spot.proto proto ≡ true →
    list_any (λ entry. net_entry_matches entry destination spot) (map (span_of proto) runs) ≡ holds (λ port. port) runs spot.port
own-spans proto [] destination spot same = refl
own-spans proto (run ∷ runs) destination spot same = rw (same, own-spans proto runs destination spot same) refl

other-spans : (proto : Proto) (runs : List (Range ℕ)) (destination : ModelEnd) (spot : PortSpot) → same_proto spot.proto proto ≡ false →
    list_any (λ entry. net_entry_matches entry destination spot) (map (span_of proto) runs) ≡ false
other-spans proto [] destination spot apart = refl
other-spans proto (run ∷ runs) destination spot apart = rw (apart, other-spans proto runs destination spot apart) refl

all-spans : (conns : Conns) (destination : ModelEnd) (spot : PortSpot) → list_any (λ entry. net_entry_matches entry destination spot) (spans_of_all conns) ≡ has_spot conns spot
all-spans conns destination spot =
    list_any-append (λ (entry : NetPort). net_entry_matches entry destination spot) (map (span_of Tcp) conns.tcp ++ map (span_of Udp) conns.udp) (map (span_of Sctp) conns.sctp)
    ∙ ap (λ (b : Bool). b || list_any (λ entry. net_entry_matches entry destination spot) (map (span_of Sctp) conns.sctp))
    (list_any-append (λ (entry : NetPort). net_entry_matches entry destination spot) (map (span_of Tcp) conns.tcp) (map (span_of Udp) conns.udp))
    ∙ by spot.proto
  where
    by : (proto : Proto)
        → ((list_any (λ entry. net_entry_matches entry destination (record { proto = proto; port = spot.port })) (map (span_of Tcp) conns.tcp) || list_any
        (λ entry. net_entry_matches entry destination (record { proto = proto; port = spot.port })) (map (span_of Udp) conns.udp)) || list_any
        (λ entry. net_entry_matches entry destination (record { proto = proto; port = spot.port })) (map (span_of Sctp) conns.sctp))
        ≡ has_spot conns (record { proto = proto; port = spot.port })
    by Tcp =
        rw (
          own-spans Tcp conns.tcp destination (record { proto = Tcp; port = spot.port }) refl,
          other-spans Udp conns.udp destination (record { proto = Tcp; port = spot.port }) refl,
          other-spans Sctp conns.sctp destination (record { proto = Tcp; port = spot.port }) refl,
        )
        (or-false (holds (λ port. port) conns.tcp spot.port || false) ∙ or-false (holds (λ port. port) conns.tcp spot.port))
    by Udp =
        rw (
          other-spans Tcp conns.tcp destination (record { proto = Udp; port = spot.port }) refl,
          own-spans Udp conns.udp destination (record { proto = Udp; port = spot.port }) refl,
          other-spans Sctp conns.sctp destination (record { proto = Udp; port = spot.port }) refl,
        )
        (or-false (holds (λ port. port) conns.udp spot.port))
    by Sctp =
        rw (
          other-spans Tcp conns.tcp destination (record { proto = Sctp; port = spot.port }) refl,
          other-spans Udp conns.udp destination (record { proto = Sctp; port = spot.port }) refl,
          own-spans Sctp conns.sctp destination (record { proto = Sctp; port = spot.port }) refl,
        )
        refl

-- ---- the whole space

whole-holds : (runs : List (Range ℕ)) (spot : PortSpot) → is_spot spot ≡ true → is_whole runs ≡ true → holds (λ port. port) runs spot.port ≡ true
whole-holds [] spot is whole = absurd (true≢false (sym whole))
whole-holds (run ∷ runs) spot is whole =
    let ends = and_parts (run.lo == 1) (run.hi == 65535) whole in
    let lo = eqb-true run.lo 1 ends.0 in
    let hi = eqb-true run.hi 65535 ends.1 in
    or_left (nat_le run.lo spot.port && nat_le spot.port run.hi) (holds (λ port. port) runs spot.port) (rw (lo, hi) is)

whole-has : (conns : Conns) (spot : PortSpot) → is_spot spot ≡ true → (is_whole conns.tcp && is_whole conns.udp && is_whole conns.sctp) ≡ true → has_spot conns spot ≡ true
whole-has conns spot is whole = by spot.proto
  where
    outer : ((is_whole conns.tcp && is_whole conns.udp) ≡ true) × (is_whole conns.sctp ≡ true)
    outer = and_parts (is_whole conns.tcp && is_whole conns.udp) (is_whole conns.sctp) whole

    inner : (is_whole conns.tcp ≡ true) × (is_whole conns.udp ≡ true)
    inner = and_parts (is_whole conns.tcp) (is_whole conns.udp) outer.0

    by : (proto : Proto) → has_spot conns (record { proto = proto; port = spot.port }) ≡ true
    by Tcp = whole-holds conns.tcp spot is inner.0
    by Udp = whole-holds conns.udp spot is inner.1
    by Sctp = whole-holds conns.sctp spot is outer.1

-- the ports of a set that is not empty match the spots of the set
pub ports-match : (conns : Conns) (destination : ModelEnd) (spot : PortSpot) → is_spot spot ≡ true → is_nothing conns ≡ false →
    none_or_any (λ entry. net_entry_matches entry destination spot) (ports_of conns) ≡ has_spot conns spot
ports-match conns destination spot is some = by (is_whole conns.tcp && is_whole conns.udp && is_whole conns.sctp) refl
  where
    by : (whole : Bool) → (is_whole conns.tcp && is_whole conns.udp && is_whole conns.sctp) ≡ whole →
        none_or_any (λ entry. net_entry_matches entry destination spot) (if whole then [] else spans_of_all conns) ≡ has_spot conns spot
    by true whole = sym (whole-has conns spot is whole)
    by false partial =
        none_or_any-some (λ (entry : NetPort). net_entry_matches entry destination spot) (spans_of_all conns) (spans-some conns some)
        ∙ all-spans conns destination spot
