-- The three forms of a printed text, and the spots that each has. For `read_leniently`.
use Rattle.std.proofs.Common.{◌≡◌, ℕ, ◌≤◌, length, length-append, List, [], ◌∷◌, ◌++◌, true, false, ◌&&◌, ◌||◌, eqb, nat_le, get_or, map, codes, refl, sym, ◌∙◌, ap, subst, arith, inl, inr}
use Rattle.std.proofs.lemmas.Bool.{cases_Bool, cond-true, cond-false, false≢true}
use Rattle.std.proofs.lemmas.List.Folds.{list_any-append, flat_map-map}
use Rattle.std.specs.List.{join_by, AllByRecursion}
use Rattle.std.proofs.Math.Bool.{or-false, and-false}
use Rattle.np_base.specs.Ranges.{is_within, holds}
use Rattle.np_conns.specs.Prelude.{Conns, IsConns, IsPart, IsRun, Part, PortSpot, Proto, Range, Sctp, Tcp, Udp, conns_text, has_spot, in_part, in_parts, in_runs, is_spot, joined, ranges_of, same_proto, text_of_part}
use Rattle.np_base.proofs.Each.{All-append}
use Rattle.np_conns.proofs.ConnLemmas.{conns_text-has_spot}
use Rattle.np_conns.proofs.OneText.{parts, found, joined-tells, none-from_part, joined-not_whole, all_whole, all_whole-is}
use Rattle.np_conns.proofs.RunLemmas.{IsRun-from_ascending}

-- ports in one range of all ports are ports
whole-has : (proto : Proto) (port : ℕ) →
    holds (λ p. p) (ranges_of (record { tcp = record { lo = 1; hi = 65535 } ∷ []; udp = record { lo = 1; hi = 65535 } ∷ []; sctp = record { lo = 1; hi = 65535 } ∷ [] }) proto) port ≡
    (nat_le 1 port && nat_le port 65535)
whole-has Tcp port = or-false _
whole-has Udp port = or-false _
whole-has Sctp port = or-false _

-- the parts are joined where not each protocol has all ports
text_of_partial : (conns : Conns) → IsConns conns → all_whole conns ≡ false → conns_text (has_spot conns) ≡ joined (parts conns.tcp conns.udp conns.sctp)
text_of_partial conns well partial = conns_text-has_spot conns well ∙ cond-false _ _ _ partial

text_of_whole : (conns : Conns) → IsConns conns → all_whole conns ≡ true → conns_text (has_spot conns) ≡ codes "All Connections"
text_of_whole conns well whole = conns_text-has_spot conns well ∙ cond-true _ _ _ whole

-- what `All Connections` has
pub whole_spots : (conns : Conns) → IsConns conns → conns_text (has_spot conns) ≡ codes "All Connections" → (spot : PortSpot) → has_spot conns spot ≡ is_spot spot
whole_spots conns well text spot = elim (cases_Bool (all_whole conns)) [
  | inl whole ↦ ap (λ s. has_spot s spot) (all_whole-is conns well whole) ∙ whole-has spot.proto spot.port
  | inr partial ↦
      absurd (joined-not_whole conns.tcp conns.udp conns.sctp (IsRun-from_ascending 1 conns.tcp (omega arith) well.tcp) (IsRun-from_ascending 1 conns.udp (omega arith) well.udp)
      (IsRun-from_ascending 1 conns.sctp (omega arith) well.sctp)
      (sym (text_of_partial conns well partial) ∙ text))
]

-- what `No Connections` has
pub no_spots : (conns : Conns) → IsConns conns → conns_text (has_spot conns) ≡ codes "No Connections" → (spot : PortSpot) → has_spot conns spot ≡ false
no_spots conns well text spot = elim (cases_Bool (all_whole conns)) [
  | inl whole ↦ absurd (false≢true (ap (λ t. eqb (get_or t 0 0) 78) (sym (text_of_whole conns well whole) ∙ text)))
  | inr partial ↦
      let told = joined-tells conns.tcp conns.udp conns.sctp (IsRun-from_ascending 1 conns.tcp (omega arith) well.tcp) (IsRun-from_ascending 1 conns.udp (omega arith) well.udp)
      (IsRun-from_ascending 1 conns.sctp (omega arith) well.sctp) in
      let same = sym (text_of_partial conns well partial) ∙ text in
      elim spot.proto as (λ proto. holds (λ p. p) (ranges_of conns proto) spot.port ≡ false) [
        | Tcp ↦ ap (λ runs. holds (λ p. p) runs spot.port) (none-from_part Tcp conns.tcp (sym told.of_tcp ∙ ap (found 84) same))
        | Udp ↦ ap (λ runs. holds (λ p. p) runs spot.port) (none-from_part Udp conns.udp (sym told.of_udp ∙ ap (found 85) same))
        | Sctp ↦ ap (λ runs. holds (λ p. p) runs spot.port) (none-from_part Sctp conns.sctp (sym told.of_sctp ∙ ap (found 83) same))
      ]
]

-- the part of one protocol, if it has a port
abbrev kept : Proto → List (Range ℕ) → List Part
kept proto [] = []
kept proto (first ∷ others) = record { proto = proto; first = first; others = others } ∷ []

abbrev all_kept : Conns → List Part
all_kept conns = kept Tcp conns.tcp ++ kept Udp conns.udp ++ kept Sctp conns.sctp

holds-in_runs : (runs : List (Range ℕ)) (port : ℕ) → holds (λ p. p) runs port ≡ in_runs runs port
holds-in_runs [] port = refl
holds-in_runs (run ∷ others) port = ap (λ b. is_within (λ p. p) run port || b) (holds-in_runs others port)

-- the spots of a protocol's part
kept-has : (proto : Proto) (runs : List (Range ℕ)) (spot : PortSpot) → in_parts (kept proto runs) spot ≡ (same_proto spot.proto proto && holds (λ p. p) runs spot.port)
kept-has proto [] spot = sym (and-false (same_proto spot.proto proto))
kept-has proto (first ∷ others) spot = or-false _ ∙ ap (λ b. same_proto spot.proto proto && b) (sym (holds-in_runs (first ∷ others) spot.port))

-- one of three is the spot's protocol
by_protocol : (conns : Conns) (proto : Proto) (port : ℕ) →
    (((same_proto proto Tcp && holds (λ p. p) conns.tcp port) || (same_proto proto Udp && holds (λ p. p) conns.udp port)) || (same_proto proto Sctp && holds (λ p. p) conns.sctp port)) ≡ holds (λ p. p)
    (ranges_of conns proto) port
by_protocol conns Tcp port = or-false _ ∙ or-false _
by_protocol conns Udp port = or-false _
by_protocol conns Sctp port = refl

all_kept-has : (conns : Conns) (spot : PortSpot) → in_parts (all_kept conns) spot ≡ has_spot conns spot
all_kept-has conns spot =
    list_any-append (in_part spot) (kept Tcp conns.tcp ++ kept Udp conns.udp) (kept Sctp conns.sctp)
    ∙ ap (λ b. b || in_parts (kept Sctp conns.sctp) spot) (list_any-append (in_part spot) (kept Tcp conns.tcp) (kept Udp conns.udp))
    ∙ ap (λ b. (b || in_parts (kept Udp conns.udp) spot) || in_parts (kept Sctp conns.sctp) spot) (kept-has Tcp conns.tcp spot)
    ∙ ap (λ b. ((same_proto spot.proto Tcp && holds (λ p. p) conns.tcp spot.port) || b) || in_parts (kept Sctp conns.sctp) spot) (kept-has Udp conns.udp spot)
    ∙ ap (λ b. ((same_proto spot.proto Tcp && holds (λ p. p) conns.tcp spot.port) || (same_proto spot.proto Udp && holds (λ p. p) conns.udp spot.port)) || b) (kept-has Sctp conns.sctp spot)
    ∙ by_protocol conns spot.proto spot.port

-- their texts are the parts
all_kept-texts : (tcp udp sctp : List (Range ℕ)) → map text_of_part (all_kept (record { tcp = tcp; udp = udp; sctp = sctp })) ≡ parts tcp udp sctp
all_kept-texts [] [] [] = refl
all_kept-texts [] [] (c ∷ cs) = refl
all_kept-texts [] (b ∷ bs) [] = refl
all_kept-texts [] (b ∷ bs) (c ∷ cs) = refl
all_kept-texts (a ∷ rest) [] [] = refl
all_kept-texts (a ∷ rest) [] (c ∷ cs) = refl
all_kept-texts (a ∷ rest) (b ∷ bs) [] = refl
all_kept-texts (a ∷ rest) (b ∷ bs) (c ∷ cs) = refl

kept-real : (proto : Proto) (runs : List (Range ℕ)) → AllByRecursion IsRun runs → AllByRecursion IsPart (kept proto runs)
kept-real proto [] real = tt
kept-real proto (first ∷ others) real = (real, tt)

all_kept-real : (conns : Conns) → IsConns conns → AllByRecursion IsPart (all_kept conns)
all_kept-real conns well =
    All-append IsPart (kept Tcp conns.tcp ++ kept Udp conns.udp) _
    (All-append IsPart (kept Tcp conns.tcp) _ (kept-real Tcp conns.tcp (IsRun-from_ascending 1 conns.tcp (omega arith) well.tcp))
    (kept-real Udp conns.udp (IsRun-from_ascending 1 conns.udp (omega arith) well.udp)))
    (kept-real Sctp conns.sctp (IsRun-from_ascending 1 conns.sctp (omega arith) well.sctp))

-- there is at most one for each protocol
kept-few : (proto : Proto) (runs : List (Range ℕ)) → length (kept proto runs) ≤ 1
kept-few proto [] = omega arith
kept-few proto (first ∷ others) = omega arith

all_kept-few : (conns : Conns) → length (all_kept conns) ≤ 3
all_kept-few conns =
    omega (
      arith,
      length-append (kept Tcp conns.tcp ++ kept Udp conns.udp) (kept Sctp conns.sctp),
      length-append (kept Tcp conns.tcp) (kept Udp conns.udp),
      kept-few Tcp conns.tcp,
      kept-few Udp conns.udp,
      kept-few Sctp conns.sctp,
    )

-- A text that is neither is that of parts.
pub record IsOfParts (conns : Conns) : Type 0 where
  pub part : Part
  pub others : List Part
  pub few : length others ≤ 2
  pub real : AllByRecursion IsPart (part ∷ others)
  pub text : conns_text (has_spot conns) ≡ join_by text_of_part (codes "; ") (part ∷ others)
  pub spots : (spot : PortSpot) → in_parts (part ∷ others) spot ≡ has_spot conns spot

-- the text of the parts there are
joined-all_kept : (conns : Conns) → IsConns conns → all_whole conns ≡ false → conns_text (has_spot conns) ≡ joined (map text_of_part (all_kept conns))
joined-all_kept conns well partial = text_of_partial conns well partial ∙ ap joined (sym (all_kept-texts conns.tcp conns.udp conns.sctp))

from_kept : (conns : Conns) → IsConns conns → all_whole conns ≡ false → (conns_text (has_spot conns) ≡ codes "No Connections" → ⊥) → (parts_there : List Part) → all_kept conns ≡ parts_there →
    IsOfParts conns
from_kept conns well partial some [] same = absurd (some (joined-all_kept conns well partial ∙ ap (λ ps. joined (map text_of_part ps)) same))
from_kept conns well partial some (first ∷ rest) same = record {
  part = first;
  others = rest;
  few = omega (arith, ap length same, all_kept-few conns);
  real = subst (AllByRecursion IsPart) same (all_kept-real conns well);
  text = joined-all_kept conns well partial ∙ ap (λ ps. joined (map text_of_part ps)) same ∙ ap (λ text. text_of_part first ++ text) (flat_map-map (λ text. codes "; " ++ text) text_of_part rest);
  spots = λ spot. ap (λ ps. in_parts ps spot) (sym same) ∙ all_kept-has conns spot;
}

pub of_parts : (conns : Conns) → IsConns conns → (conns_text (has_spot conns) ≡ codes "All Connections" → ⊥) → (conns_text (has_spot conns) ≡ codes "No Connections" → ⊥) → IsOfParts conns
of_parts conns well not_all some = elim (cases_Bool (all_whole conns)) [
  | inl whole ↦ absurd (not_all (text_of_whole conns well whole))
  | inr partial ↦ from_kept conns well partial some (all_kept conns) refl
]
