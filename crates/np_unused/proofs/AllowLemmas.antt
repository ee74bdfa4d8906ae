-- Unused rules change nothing. For `unused_rules_change_nothing` and crates above.
use Rattle.std.proofs.Common.{◌≡◌, ℕ, Bool, true, false, ◌&&◌, ◌==◌, Some, refl, sym, ap, ◌∙◌, subst}
use Rattle.std.specs.List.{Contains}
use Rattle.std.proofs.lemmas.Bool.{and_parts, eqb-true, false≢true}
use Rattle.np_unused.specs.Prelude.{Admin, At, Base, Direction, Egress, End, EstateLists, Family, Ingress, IsListedPacket, Net, Pod, PortSpot, RuleRef, Tier, direction_number, goes, ref_of, rule_in, rule_name, same_ref, tier_number, unused_of, without}
use Rattle.np_model.specs.Prelude.{IsLawful}
use Rattle.np_explain.specs.Prelude.{decider_between, packet_between}
use Rattle.np_unused.proofs.ChangeLemmas.{Stays, side_same}
use Rattle.np_unused.proofs.LawLemmas.{stands_by_name, unused_is}
use Rattle.np_unused.proofs.PacketLemmas.{any_gives, is_used_by}
use Rattle.np_rules.specs.Prelude.{allows, contact_of, end_allows, end_of, pod_at}

-- ---- one rule

tier_same : (a b : Tier) → (tier_number a == tier_number b) ≡ true → a ≡ b
tier_same Admin Admin same = refl
tier_same Net Net same = refl
tier_same Base Base same = refl
tier_same Admin Net same = absurd (false≢true same)
tier_same Admin Base same = absurd (false≢true same)
tier_same Net Admin same = absurd (false≢true same)
tier_same Net Base same = absurd (false≢true same)
tier_same Base Admin same = absurd (false≢true same)
tier_same Base Net same = absurd (false≢true same)

direction_same : (a b : Direction) → (direction_number a == direction_number b) ≡ true → a ≡ b
direction_same Ingress Ingress same = refl
direction_same Egress Egress same = refl
direction_same Ingress Egress same = absurd (false≢true same)
direction_same Egress Ingress same = absurd (false≢true same)

ref_same : (a b : RuleRef) → same_ref a b ≡ true → a ≡ b
ref_same a b same =
    let front = and_parts (tier_number a.tier == tier_number b.tier && a.policy == b.policy && direction_number a.direction == direction_number b.direction) (a.place == b.place) same in
    let middle = and_parts (tier_number a.tier == tier_number b.tier && a.policy == b.policy) (direction_number a.direction == direction_number b.direction) front.0 in
    let first = and_parts (tier_number a.tier == tier_number b.tier) (a.policy == b.policy) middle.0 in
    let of_tier : Tier → RuleRef = λ t. record { tier = t; policy = a.policy; direction = a.direction; place = a.place } in
    let of_policy : ℕ → RuleRef = λ n. record { tier = b.tier; policy = n; direction = a.direction; place = a.place } in
    let of_direction : Direction → RuleRef = λ d. record { tier = b.tier; policy = b.policy; direction = d; place = a.place } in
    let of_place : ℕ → RuleRef = λ n. record { tier = b.tier; policy = b.policy; direction = b.direction; place = n } in
    ap of_tier (tier_same a.tier b.tier first.0) ∙ ap of_policy (eqb-true a.policy b.policy first.1) ∙ ap of_direction (direction_same a.direction b.direction middle.1) ∙ ap of_place
    (eqb-true a.place b.place front.1)

-- ---- a packet

module _ (lists : EstateLists) (source destination : End) (family : Family) (spot : PortSpot) (listed : IsListedPacket lists source destination family spot) where
  -- a rule that stands in what decides is not among the unused ones
  not_gone : (one : Tier) (policy place : ℕ) (direction : Direction) →
      rule_in one (decider_between lists direction source destination family spot) ≡ Some (rule_name lists (ref_of direction one policy place)) →
      goes (unused_of lists) one policy direction place ≡ false
  not_gone one policy place direction stands = go (goes (unused_of lists) one policy direction place) refl
    where
      go : (b : Bool) → goes (unused_of lists) one policy direction place ≡ b → b ≡ false
      go false is = refl
      go true is =
          let found = any_gives (same_ref (ref_of direction one policy place)) (unused_of lists) is in
          let has = subst (λ (rule : RuleRef). Contains (unused_of lists) rule) (sym (ref_same (ref_of direction one policy place) found.0 found.2)) found.1 in
          absurd (false≢true (sym (unused_is lists (ref_of direction one policy place) has).1 ∙ is_used_by lists (ref_of direction one policy place) source destination family spot listed
          (stands_by_name (rule_name lists (ref_of direction one policy place)) _ stands)))

-- its two sides
egress_same : (lists : EstateLists) → IsLawful lists → (source destination : End) (family : Family) (spot : PortSpot) → IsListedPacket lists source destination family spot →
    end_allows (without lists (unused_of lists)) Egress (end_of lists source) (contact_of Egress (packet_between lists source destination family spot)) ≡ end_allows lists Egress (end_of lists source)
    (contact_of Egress (packet_between lists source destination family spot))
unfolding Stays
egress_same lists lawful (At a) destination family spot listed = refl
egress_same lists lawful (Pod p) destination family spot listed =
    side_same lists lawful (unused_of lists) Egress (pod_at lists p) (contact_of Egress (packet_between lists (Pod p) destination family spot))
    (λ one policy place valid stands. not_gone lists (Pod p) destination family spot listed one policy place Egress stands)

ingress_same : (lists : EstateLists) → IsLawful lists → (source destination : End) (family : Family) (spot : PortSpot) → IsListedPacket lists source destination family spot →
    end_allows (without lists (unused_of lists)) Ingress (end_of lists destination) (contact_of Ingress (packet_between lists source destination family spot)) ≡ end_allows lists Ingress
    (end_of lists destination) (contact_of Ingress (packet_between lists source destination family spot))
unfolding Stays
ingress_same lists lawful source (At a) family spot listed = refl
ingress_same lists lawful source (Pod p) family spot listed =
    side_same lists lawful (unused_of lists) Ingress (pod_at lists p) (contact_of Ingress (packet_between lists source (Pod p) family spot))
    (λ one policy place valid stands. not_gone lists source (Pod p) family spot listed one policy place Ingress stands)

pub change_nothing : (lists : EstateLists) → IsLawful lists → (source destination : End) (family : Family) (spot : PortSpot) → IsListedPacket lists source destination family spot →
    allows (without lists (unused_of lists)) (packet_between lists source destination family spot) ≡ allows lists (packet_between lists source destination family spot)
unfolding allows
change_nothing lists lawful source destination family spot listed =
    let packet = packet_between lists source destination family spot in
    ap (λ (b : Bool). b && end_allows (without lists (unused_of lists)) Ingress (end_of lists destination) (contact_of Ingress packet)) (egress_same lists lawful source destination family spot listed)
    ∙ ap (λ (b : Bool). end_allows lists Egress (end_of lists source) (contact_of Egress packet) && b) (ingress_same lists lawful source destination family spot listed)
