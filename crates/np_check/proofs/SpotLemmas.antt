-- The first protocol and port that pass a test. For `Claim::first_broken`, `first_of_proto` and `first_spot`.
use Rattle.std.proofs.Common.{◌≡◌, ℕ, ◌+◌, ◌<◌, ◌≤◌, List, [], ◌∷◌, Bool, true, ◌&&◌, not, nat_le, Option, Some, None, option_map, refl, sym, ap, ◌∙◌, arith}
use Rattle.std.specs.List.{slice_get}
use Rattle.std.specs.Option.{option_or}
use Rattle.std.proofs.lemmas.Bool.{and_from, le-leb, or_left}
use Rattle.std.proofs.lemmas.Option.{none-some, same_Some}
use Rattle.np_base.proofs.Ranges.{holds-before, is_within-inside}
use Rattle.np_base.specs.Ranges.{IsAscending, holds}
use Rattle.np_check.specs.Prelude.{PortSpot, Proto, Range, Sctp, Tcp, Udp, Wanted, breaks, complies, first_of_ports, first_of_proto, first_spot}
use Rattle.np_check.proofs.FirstLemmas.{find-at, find-none, find-same, first_of-same}
use Rattle.np_conns.specs.Prelude.{AscendsInPorts, Conns, has_spot, is_spot, ranges_of}

first_of_ports-same : (passes passes' : PortSpot → Bool) (proto : Proto) (first count : ℕ) →
    ((port : ℕ) → first ≤ port → port < first + count → passes (record { proto = proto; port = port }) ≡ passes' (record { proto = proto; port = port })) →
    first_of_ports passes proto first count ≡ first_of_ports passes' proto first count
unfolding first_of_ports
first_of_ports-same passes passes' proto first count same =
    ap (option_map (λ port. record { proto = proto; port = port }))
    (find-same (λ port. passes (record { proto = proto; port = port })) (λ port. passes' (record { proto = proto; port = port })) first count same)

port_is_spot : (proto : Proto) (port : ℕ) → 1 ≤ port → port < 1 + 65535 → is_spot (record { proto = proto; port = port }) ≡ true
port_is_spot proto port low high = and_from (nat_le 1 port) (nat_le port 65535) (le-leb 1 port low) (le-leb port 65535 (omega arith))

first_of_proto-same : (passes passes' : PortSpot → Bool) → ((spot : PortSpot) → is_spot spot ≡ true → passes spot ≡ passes' spot) → (proto : Proto) →
    first_of_proto passes proto ≡ first_of_proto passes' proto
first_of_proto-same passes passes' same proto =
    first_of_ports-same passes passes' proto 1 65535 (λ port low high. same (record { proto = proto; port = port }) (port_is_spot proto port low high))

-- tests that agree on every spot have the same first one
pub first_spot-same : (passes passes' : PortSpot → Bool) → ((spot : PortSpot) → is_spot spot ≡ true → passes spot ≡ passes' spot) → first_spot passes ≡ first_spot passes'
unfolding first_spot
first_spot-same passes passes' same = first_of-same (first_of_proto passes) (first_of_proto passes') (Tcp ∷ Udp ∷ Sctp ∷ []) (first_of_proto-same passes passes' same)

-- what breaks the statement by one test breaks it by another that agrees
pub breaks-same : (wanted : Wanted) (conns : Conns) (allowed allowed' : PortSpot → Bool) → ((spot : PortSpot) → is_spot spot ≡ true → allowed spot ≡ allowed' spot) →
    first_spot (breaks wanted conns allowed) ≡ first_spot (breaks wanted conns allowed')
breaks-same wanted conns allowed allowed' same =
    first_spot-same (breaks wanted conns allowed) (breaks wanted conns allowed') (λ spot is. ap (λ (yes_or_no : Bool). has_spot conns spot && not (complies wanted yes_or_no)) (same spot is))

-- ---- of a set

-- the first port of the first range
abbrev lo_of : Proto → List (Range ℕ) → Option PortSpot
lo_of proto [] = None
lo_of proto (range ∷ ranges) = Some (record { proto = proto; port = range.lo })

first_in_ranges : (proto : Proto) (passes : PortSpot → Bool) (ranges : List (Range ℕ)) (first count last : ℕ) → first + count ≡ last + 1 → IsAscending (λ p. p) first last ranges →
    ((port : ℕ) → passes (record { proto = proto; port = port }) ≡ holds (λ p. p) ranges port) → first_of_ports passes proto first count ≡ lo_of proto ranges
unfolding first_of_ports
first_in_ranges proto passes [] first count last ends ascends is =
    ap (option_map (λ port. record { proto = proto; port = port })) (find-none (λ port. passes (record { proto = proto; port = port })) first count (λ port from to. is port))
first_in_ranges proto passes (range ∷ ranges) first count last ends ascends is =
    ap (option_map (λ port. record { proto = proto; port = port }))
    (find-at (λ port. passes (record { proto = proto; port = port })) first count range.lo ascends.0 (omega (arith, ascends.1, ascends.2))
    (is range.lo ∙ or_left _ _ (is_within-inside (λ p. p) range range.lo (omega arith) ascends.1))
    (λ port from to. is port ∙ holds-before (λ p. p) range.lo last (range ∷ ranges) port (omega arith, ascends.1, ascends.2, ascends.3) to))

first_of_set : (set : Conns) (proto : Proto) (ranges : List (Range ℕ)) → ranges ≡ ranges_of set proto → AscendsInPorts ranges → first_of_proto (has_spot set) proto ≡ lo_of proto ranges
first_of_set set proto ranges are ascends =
    first_in_ranges proto (has_spot set) ranges 1 65535 65535 refl ascends (λ port. ap (λ (rs : List (Range ℕ)). holds (λ p. p) rs port) (sym are))

-- what a set has first, by its first range
pub first_of_none : (set : Conns) (proto : Proto) (ranges : List (Range ℕ)) → ranges ≡ ranges_of set proto → AscendsInPorts ranges → slice_get ranges 0 ≡ None →
    None ≡ first_of_proto (has_spot set) proto
first_of_none set proto [] are ascends none = sym (first_of_set set proto [] are ascends)
first_of_none set proto (range ∷ ranges) are ascends none = absurd (none-some range (sym none))

pub first_of_some : (set : Conns) (proto : Proto) (ranges : List (Range ℕ)) (first : Range ℕ) → ranges ≡ ranges_of set proto → AscendsInPorts ranges → slice_get ranges 0 ≡ Some first →
    Some (record { proto = proto; port = first.lo }) ≡ first_of_proto (has_spot set) proto
first_of_some set proto [] first are ascends some = absurd (none-some first some)
first_of_some set proto (range ∷ ranges) first are ascends some =
    let same : range ≡ first = same_Some range first some in
    ap (λ (r : Range ℕ). Some (record { proto = proto; port = r.lo })) (sym same) ∙ sym (first_of_set set proto (range ∷ ranges) are ascends)

-- of three protocols
pub first_of_three : {X : Type 0} (tcp udp sctp : Option X) → option_or (option_or tcp udp) sctp ≡ option_or tcp (option_or udp (option_or sctp None))
first_of_three None None None = refl
first_of_three None None (Some s) = refl
first_of_three None (Some u) sctp = refl
first_of_three (Some t) udp sctp = refl
