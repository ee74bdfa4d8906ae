-- What decides between two ends, at both sides of them, and what passes.
use Rattle.std.specs.Prelude.{◌≡◌, ◌&&◌, List, Bool, true}
use Rattle.std.specs.Cmp.Lexicographic.{pointwise}
use Rattle.std.specs.List.{list_any}
use Rattle.np_explain.specs.Types.{Egress, End, EstateLists, Explanation, Family, Ingress, Part, PortSpot}
use Rattle.np_base.specs.Ranges.{are_same_range}
use Rattle.np_conns.specs.Prelude.{Conns, conns_of, has_spot, is_spot}
use Rattle.np_explain.specs.Parts.{AreRightParts}
use Rattle.np_explain.specs.RightParts.{parts_of, same_decider}
use Rattle.np_explain.specs.Sides.{decider_between, packet_between}
use Rattle.np_rules.specs.Prelude.{allows, decider_allows}

-- ---- the explanation of two ends

-- whether the packet of a family from one end to another is allowed, spot by spot
abbrev pub passes_between : EstateLists → End → End → Family → PortSpot → Bool
passes_between lists source destination family spot = allows lists (packet_between lists source destination family spot)

-- the right parts of both sides, and all spots at which packets are allowed
unfoldable pub explanation_of : EstateLists → End → End → Family → Explanation
explanation_of lists source destination family = record {
  egress = parts_of (decider_between lists Egress source destination family);
  ingress = parts_of (decider_between lists Ingress source destination family);
  conns = conns_of (passes_between lists source destination family);
}

-- An explanation is right for two ends in a family: its parts name what decides each of their packets at either side, and its
-- connections are those that are allowed.
pub record IsRightFor (lists : EstateLists) (source destination : End) (family : Family) (made : Explanation) : Type 0 where
  pub egress : AreRightParts (decider_between lists Egress source destination family) made.egress
  pub ingress : AreRightParts (decider_between lists Ingress source destination family) made.ingress
  pub conns : (spot : PortSpot) → is_spot spot ≡ true → has_spot made.conns spot ≡ passes_between lists source destination family spot

-- ---- parts that allow

-- whether a spot is in a part that allows
abbrev pub some_allows : List Part → PortSpot → Bool
some_allows parts spot = list_any (λ part. decider_allows part.decider && has_spot part.conns spot) parts

-- ---- explanations that are alike

abbrev pub same_conns : Conns → Conns → Bool
same_conns a b = pointwise are_same_range a.tcp b.tcp && (pointwise are_same_range a.udp b.udp && pointwise are_same_range a.sctp b.sctp)

abbrev pub same_part : Part → Part → Bool
same_part a b = same_decider a.decider b.decider && same_conns a.conns b.conns

unfoldable pub same_parts : List Part → List Part → Bool
same_parts these those = pointwise same_part these those

-- whether two explanations have the same parts at both sides
abbrev pub same_sides : Explanation → Explanation → Bool
same_sides one other = same_parts one.egress other.egress && same_parts one.ingress other.ingress
