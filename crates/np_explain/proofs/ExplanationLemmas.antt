-- The explanation of two ends: its connections, and when two are alike. For `explain_sides`, `explanations_are_right` and 3 more.
use Rattle.std.proofs.Common.{◌≡◌, ◌↔◌, IsTrue, List, [], ◌∷◌, Bool, true, false, ◌&&◌, ◌||◌, MatchBool, not, filter, map, refl, subst, sym, ap, ap₂, ◌∙◌, ℕ}
use Rattle.std.specs.Bool.{Decides}
use Rattle.std.specs.List.{list_any}
use Rattle.std.specs.Cmp.Lexicographic.{pointwise}
use Rattle.std.proofs.lemmas.Bool.Decides.{Decides-and}
use Rattle.std.proofs.lemmas.Slice.Eq.{slice_eq-Decides}
use Rattle.std.proofs.Math.Bool.{or-false, and-true, and-false}
use Rattle.np_explain.specs.Prelude.{AreRightParts, Decider, Egress, End, EstateLists, Explanation, Family, Ingress, IsRightFor, NoSide, Part, PortSpot, Range, decider_between, explanation_of, packet_between, parts_of, passes_between, same_conns, same_decider, same_part, same_parts, same_sides, some_allows}
use Rattle.np_base.proofs.Bools.{not_itself}
use Rattle.np_base.specs.Ranges.{are_same_range}
use Rattle.np_conns.proofs.ConnLemmas.{are_same_range-Decides, conns_of-has, conns_of-set}
use Rattle.np_conns.specs.Prelude.{Conns, IsConns, conns_of, has_spot, is_spot}
use Rattle.np_explain.proofs.OneListLemmas.{both_say, one_part}
use Rattle.np_explain.proofs.RightPartsLemmas.{made_are_right}
use Rattle.np_explain.proofs.SameDecider.{same_decider-Decides}
use Rattle.np_rules.specs.Prelude.{decider_allows}

-- ---- parts that allow

any-kept : (has : Part → Bool) (parts : List Part)
    → list_any (λ part. decider_allows part.decider && has part) parts ≡ list_any decider_allows (map (λ part. part.decider) (filter has parts))
any-kept has [] = refl
any-kept has (part ∷ parts) = by (has part) refl (any-kept has parts)
  where
    by : (h : Bool) → has part ≡ h
        → list_any (λ one. decider_allows one.decider && has one) parts ≡ list_any decider_allows (map (λ one. one.decider) (filter has parts))
        → list_any (λ one. decider_allows one.decider && has one) (part ∷ parts) ≡ list_any decider_allows (map (λ one. one.decider) (filter has (part ∷ parts)))
    by true is rest = rw is (ap₂ (λ (a b : Bool). a || b) (and-true (decider_allows part.decider)) rest)
    by false is rest = rw is (ap (λ (a : Bool). a || list_any (λ (one : Part). decider_allows one.decider && has one) parts) (and-false (decider_allows part.decider)) ∙ rest)

-- a spot is in a right part that allows where what decides it does
pub allows-right : (decides : PortSpot → Decider) (parts : List Part) (spot : PortSpot) → AreRightParts decides parts → is_spot spot ≡ true
    → some_allows parts spot ≡ decider_allows (decides spot)
allows-right decides parts spot right inside =
    any-kept (λ part. has_spot part.conns spot) parts
    ∙ ap (list_any decider_allows) (one_part decides parts spot right inside)
    ∙ or-false (decider_allows (decides spot))

-- ---- connections

module _ (lists : EstateLists) (source destination : End) (family : Family) where
  -- what decides at both sides tells what passes
  passes-deciders : (spot : PortSpot) → passes_between lists source destination family spot
      ≡ (decider_allows (decider_between lists Egress source destination family spot) && decider_allows (decider_between lists Ingress source destination family spot))
  passes-deciders spot = both_say lists (packet_between lists source destination family spot)

  -- a spot that is in allowing parts of both sides passes
  passes-parts : (egress ingress : List Part) (spot : PortSpot) → AreRightParts (decider_between lists Egress source destination family) egress
      → AreRightParts (decider_between lists Ingress source destination family) ingress → is_spot spot ≡ true
      → (some_allows egress spot && some_allows ingress spot) ≡ passes_between lists source destination family spot
  passes-parts egress ingress spot sends receives inside =
      ap₂ (λ (sent received : Bool). sent && received) (allows-right _ egress spot sends inside) (allows-right _ ingress spot receives inside)
      ∙ sym (passes-deciders spot)

  -- ---- the explanation

  pub explanation-made : (egress ingress : List Part) (conns : Conns)
      → egress ≡ parts_of (decider_between lists Egress source destination family) → ingress ≡ parts_of (decider_between lists Ingress source destination family)
      → AreRightParts (decider_between lists Egress source destination family) egress → AreRightParts (decider_between lists Ingress source destination family) ingress
      → IsConns conns → ((spot : PortSpot) → is_spot spot ≡ true → has_spot conns spot ≡ (some_allows egress spot && some_allows ingress spot))
      → record { egress = egress; ingress = ingress; conns = conns } ≡ explanation_of lists source destination family
  unfolding explanation_of
  explanation-made egress ingress conns egress_is ingress_is sends receives well both =
      let passes = passes_between lists source destination family in
      let set : conns ≡ conns_of passes = conns_of-set conns passes well (λ spot inside.
      both spot inside ∙ passes-parts egress ingress spot sends receives inside) in
      ap (λ (parts : List Part). record { egress = parts; ingress = ingress; conns = conns }) egress_is
      ∙ ap (λ (parts : List Part). record { egress = parts_of (decider_between lists Egress source destination family); ingress = parts; conns = conns }) ingress_is
      ∙ ap (λ (one : Conns). record {
        egress = parts_of (decider_between lists Egress source destination family);
        ingress = parts_of (decider_between lists Ingress source destination family);
        conns =
            one;
      }) set

  pub explanation-right : IsRightFor lists source destination family (explanation_of lists source destination family)
  unfolding explanation_of
  explanation-right = record {
    egress = made_are_right (decider_between lists Egress source destination family);
    ingress = made_are_right (decider_between lists Ingress source destination family);
    conns = λ spot inside. conns_of-has (passes_between lists source destination family) spot inside;
  }

-- ---- the same of other packets

-- parts are right for whatever decides each spot alike
parts-alike : (decides others : PortSpot → Decider) (parts : List Part) → ((spot : PortSpot) → decides spot ≡ others spot) → AreRightParts decides parts → AreRightParts others parts
parts-alike decides others parts alike right = record {
  spots = λ k part within spot inside.
      let one = right.spots k part within spot inside in (λ has. sym (alike spot) ∙ one.0 has, λ is. one.1 (alike spot ∙ is));
  all = right.all;
  distinct = right.distinct;
  filled = right.filled;
  well = right.well;
  ordered = right.ordered;
}

-- an explanation is right for other ends between which the same decides
pub right-alike : (lists : EstateLists) (s d s' d' : End) (family : Family) (made : Explanation)
    → ((spot : PortSpot) → decider_between lists Egress s d family spot ≡ decider_between lists Egress s' d' family spot)
    → ((spot : PortSpot) → decider_between lists Ingress s d family spot ≡ decider_between lists Ingress s' d' family spot)
    → IsRightFor lists s d family made → IsRightFor lists s' d' family made
right-alike lists s d s' d' family made sends receives right = record {
  egress = parts-alike _ _ made.egress sends right.egress;
  ingress = parts-alike _ _ made.ingress receives right.ingress;
  conns = λ spot inside.
      right.conns spot inside ∙ passes-deciders lists s d family spot
      ∙ ap₂ (λ (a b : Bool). a && b) (ap decider_allows (sends spot)) (ap decider_allows (receives spot))
      ∙ sym (passes-deciders lists s' d' family spot);
}

-- ---- the same parts

ranges-Decide : (a b : List (Range ℕ)) → Decides (pointwise are_same_range a b) (a ≡ b)
ranges-Decide a b = slice_eq-Decides are_same_range-Decides a b (pointwise are_same_range a b) refl

same_conns-Decides : (a b : Conns) → Decides (same_conns a b) (a ≡ b)
same_conns-Decides a b =
    let later = Decides-and (pointwise are_same_range a.udp b.udp) (pointwise are_same_range a.sctp b.sctp) (ranges-Decide a.udp b.udp) (ranges-Decide a.sctp b.sctp) in
    let parts = Decides-and (pointwise are_same_range a.tcp b.tcp) _ (ranges-Decide a.tcp b.tcp) later in
    let of_tcp : List (Range ℕ) → Conns = λ ranges. record { tcp = ranges; udp = a.udp; sctp = a.sctp } in
    let of_udp : List (Range ℕ) → Conns = λ ranges. record { tcp = b.tcp; udp = ranges; sctp = a.sctp } in
    let of_sctp : List (Range ℕ) → Conns = λ ranges. record { tcp = b.tcp; udp = b.udp; sctp = ranges } in (
      λ same. let all = parts.0 same in ap of_tcp all.0 ∙ ap of_udp all.1.0 ∙ ap of_sctp all.1.1,
      λ same. parts.1 (ap (λ (set : Conns). set.tcp) same, (ap (λ (set : Conns). set.udp) same, ap (λ (set : Conns). set.sctp) same)),
    )

-- what a set answers of another tells the same
pub same_conns_answer : (a b : Conns) (answer : Bool) → MatchBool answer (a ≡ b) ((spot : PortSpot) × (has_spot a spot ≡ not (has_spot b spot))) → answer ≡ same_conns a b
same_conns_answer a b true same = sym ((same_conns-Decides a b).1 same)
same_conns_answer a b false other = go (same_conns a b) refl
  where
    go : (x : Bool) → same_conns a b ≡ x → false ≡ x
    go true is = absurd (not_itself (has_spot b other.0) (sym (ap (λ (set : Conns). has_spot set other.0) ((same_conns-Decides a b).0 is)) ∙ other.1))
    go false is = refl

same_part-Decides : (a b : Part) → Decides (same_part a b) (a ≡ b)
same_part-Decides a b =
    let parts = Decides-and (same_decider a.decider b.decider) (same_conns a.conns b.conns) (same_decider-Decides a.decider b.decider) (same_conns-Decides a.conns b.conns) in
    let of_decider : Decider → Part = λ decider. record { decider = decider; conns = a.conns } in
    let of_conns : Conns → Part = λ conns. record { decider = b.decider; conns = conns } in (
      λ same. ap of_decider (parts.0 same).0 ∙ ap of_conns (parts.0 same).1,
      λ same. parts.1 (ap (λ (part : Part). part.decider) same, ap (λ (part : Part). part.conns) same),
    )

same_parts-Decides : (these those : List Part) → Decides (same_parts these those) (these ≡ those)
unfolding same_parts
same_parts-Decides these those = slice_eq-Decides same_part-Decides these those (same_parts these those) refl

pub same_sides-Decides : (one other : Explanation) → Decides (same_sides one other) ((one.egress ≡ other.egress) × (one.ingress ≡ other.ingress))
same_sides-Decides one other =
    Decides-and (same_parts one.egress other.egress) (same_parts one.ingress other.ingress) (same_parts-Decides one.egress other.egress) (same_parts-Decides one.ingress other.ingress)

-- so does an answer that is theirs
pub same_sides_told : (one other : Explanation) (answer : Bool) → answer ≡ same_sides one other
    → IsTrue answer ↔ ((one.egress ≡ other.egress) × (one.ingress ≡ other.ingress))
same_sides_told one other answer is =
    let tells = same_sides-Decides one other in (λ same. tells.0 (sym is ∙ same), λ equal. is ∙ tells.1 equal)

-- ---- one explanation of both families

-- right parts tell what decides each spot
decides-of : (decides others : PortSpot → Decider) (parts : List Part) → AreRightParts decides parts → AreRightParts others parts
    → (spot : PortSpot) → is_spot spot ≡ true → decides spot ≡ others spot
decides-of decides others parts one other spot inside =
    ap (λ (found : List Decider). first found) (sym (one_part decides parts spot one inside) ∙ one_part others parts spot other inside)
  where
    first : List Decider → Decider
    first [] = NoSide
    first (decider ∷ deciders) = decider

pub same_sides-right : (lists : EstateLists) (source destination : End) (family other : Family)
    → same_sides (explanation_of lists source destination family) (explanation_of lists source destination other) ≡ true
    → IsRightFor lists source destination other (explanation_of lists source destination family)
same_sides-right lists source destination family other same =
    let made = explanation_of lists source destination family in
    let equal = (same_sides-Decides made (explanation_of lists source destination other)).0 same in
    let here = explanation-right lists source destination family in
    let there = explanation-right lists source destination other in
    let sends : AreRightParts (decider_between lists Egress source destination other) made.egress =
    subst (AreRightParts (decider_between lists Egress source destination other)) (sym equal.0) there.egress in
    let receives : AreRightParts (decider_between lists Ingress source destination other) made.ingress =
    subst (AreRightParts (decider_between lists Ingress source destination other)) (sym equal.1) there.ingress in record {
      egress = sends;
      ingress = receives;
      conns = λ spot inside.
          here.conns spot inside ∙ passes-deciders lists source destination family spot
          ∙ ap₂ (λ (a b : Bool). a && b) (ap decider_allows (decides-of _ _ made.egress here.egress sends spot inside))
          (ap decider_allows (decides-of _ _ made.ingress here.ingress receives spot inside))
          ∙ sym (passes-deciders lists source destination other spot);
    }
