-- Packets that the verdict does not tell apart. For `kinds_give_the_deciders`, `kinds_give_the_rule_counts` and 2 more.
use Rattle.std.proofs.Common.{◌≡◌, ℕ, List, [], ◌∷◌, ◌++◌, ◌&&◌, map, refl, ap, subst, inl, inr, ◌∙◌}
use Rattle.std.specs.List.{AllByRecursion, flat_map}
use Rattle.std.specs.Option.{option_map_or}
use Rattle.std.proofs.lemmas.List.Elements.{recursion_from_All}
use Rattle.np_labels.specs.Prelude.{AgreeOn}
use Rattle.np_labels.proofs.Agreed.{All-from_listed}
use Rattle.np_base.proofs.Each.{All-parts}
use Rattle.np_kinds.specs.Prelude.{AreOneKind, Direction, Egress, EstateLists, Family, Ingress, Pod, PortSpot}
use Rattle.np_fold.specs.Prelude.{IsSameKind, admin_subjects, cidrs_of_estate, keys_of_admin_peer, keys_of_estate, keys_of_net_policy, keys_of_service, keys_of_subject}
use Rattle.np_rules.proofs.EachItem.{All-each, All-flat, All-three}
use Rattle.np_rules.proofs.SameVerdicts.{MatchAlike, SamePlaces, SelectAlike, pods_allow-same, pods_decide-same, same_places}
use Rattle.np_rules.proofs.PlacedRules.{admin_places-all, base_places-all}
use Rattle.np_kinds.proofs.KindPeers.{AgreeAt, AgreeIn, SameEnd, SamePod}
use Rattle.np_kinds.proofs.KindRules.{IsAlikeAt, SameContact, admin_peers-same, admin_rules-same}
use Rattle.np_kinds.proofs.KindSides.{admins-alike, base-alike, net_places-alike, nets-alike}
use Rattle.np_model.specs.Prelude.{admin_peers, admin_rules}
use Rattle.np_rules.specs.Prelude.{Contact, ModelEnd, ModelPacket, PodEnd, address, allows, contact_of, decider, end_allows, end_rule_count, pod, pod_end}

-- ---- what the keys of an estate are

-- a fact of each kind of keys that policies name
record OfPolicies (P : List ℕ → Type 0) (lists : EstateLists) : Type 0 where
  net : AllByRecursion P (flat_map keys_of_net_policy lists.net_policies)
  admin : AllByRecursion (λ subject. AllByRecursion P (keys_of_subject subject)) (map (λ policy. policy.subject) lists.admin_policies)
  base : AllByRecursion (λ subject. AllByRecursion P (keys_of_subject subject)) (option_map_or (λ base. base.subject ∷ []) lists.baseline [])
  peers : AllByRecursion P (flat_map keys_of_admin_peer (admin_peers lists.admin_policies lists.baseline))

OfPolicies-from : (P : List ℕ → Type 0) (lists : EstateLists) → AllByRecursion P (keys_of_estate lists) → OfPolicies P lists
OfPolicies-from P lists all =
    let parts = All-three P (flat_map keys_of_net_policy lists.net_policies) (flat_map keys_of_subject (admin_subjects lists)) _ (All-parts P _ (flat_map keys_of_service lists.services) all).0 in
    let subjects = All-parts _ (map (λ policy. policy.subject) lists.admin_policies) _ (All-flat P keys_of_subject (admin_subjects lists) parts.1.0) in
    record { net = parts.0; admin = subjects.0; base = subjects.1; peers = parts.1.1 }

-- ---- sides

-- each policy selects both pods, or neither
select_alike : (lists : EstateLists) (p q : PodEnd) → SamePod p q → OfPolicies (AgreeOn p.labels q.labels) lists → SelectAlike lists p q
select_alike lists p q pods near = record {
  admin = admins-alike p q pods lists.admin_policies near.admin;
  net = nets-alike p q pods lists.net_policies near.net;
  base = base-alike p q pods lists.baseline near.base;
}

-- each rule that speaks of a pod matches both contacts, or neither
match_alike : (lists : EstateLists) (direction : Direction) (q : PodEnd) (one other : Contact) → SameContact one other → OfPolicies (AgreeAt one.far other.far) lists →
    AllByRecursion (AgreeIn one.far other.far) (cidrs_of_estate lists) → MatchAlike lists direction q one other
match_alike lists direction q one other same far within =
    let peers = admin_peers-same one other same (admin_peers lists.admin_policies lists.baseline) far.peers within in
    let rules = admin_rules-same one other same (admin_rules lists.admin_policies lists.baseline) peers in
    let alike = All-parts (IsAlikeAt one other) (flat_map (λ policy. policy.ingress ++ policy.egress) lists.admin_policies) _ rules in
    record {
      admin = admin_places-all (IsAlikeAt one other) direction q lists.admin_policies alike.0;
      net = net_places-alike q one other same direction lists.net_policies far.net;
      base = base_places-all (IsAlikeAt one other) direction q lists.baseline alike.1;
    }

-- ---- ends and packets

-- two ends that no rule of the lists tells apart
pub record SameKindEnd (lists : EstateLists) (one other : ModelEnd) : Type 0 where
  same : SameEnd one other
  keys : OfPolicies (AgreeAt one other) lists
  cidrs : AllByRecursion (AgreeIn one other) (cidrs_of_estate lists)

SameKindEnd-pods : (lists : EstateLists) (a b : Pod) → IsSameKind lists a b → a.namespace_labels ≡ b.namespace_labels → SameKindEnd lists (pod (pod_end a)) (pod (pod_end b))
SameKindEnd-pods lists a b kind labels = record {
  same = record { namespace = kind.namespace; namespace_labels = labels; ports = kind.ports };
  keys = OfPolicies-from (AgreeOn a.labels b.labels) lists (All-from_listed (AgreeOn a.labels b.labels) (keys_of_estate lists) kind.labels);
  cidrs = recursion_from_All _ (cidrs_of_estate lists) kind.blocks;
}

SameEnd-refl : (end : ModelEnd) → SameEnd end end
SameEnd-refl (pod p) = record { namespace = refl; namespace_labels = refl; ports = refl }
SameEnd-refl (address a) = refl

SameKindEnd-refl : (lists : EstateLists) (end : ModelEnd) → SameKindEnd lists end end
SameKindEnd-refl lists end = record {
  same = SameEnd-refl end;
  keys = OfPolicies-from (AgreeAt end end) lists (All-each (AgreeAt end end) (λ key. refl) (keys_of_estate lists));
  cidrs = All-each (AgreeIn end end) (λ cidr. refl) (cidrs_of_estate lists);
}

-- ends of one kind are such
pub SameKindEnd-ends : (lists : EstateLists) (one other : ModelEnd) → AreOneKind lists one other → SameKindEnd lists one other
SameKindEnd-ends lists one other (inl pods) = rw pods.one_is (rw pods.other_is (SameKindEnd-pods lists pods.first pods.second pods.kind pods.namespace))
SameKindEnd-ends lists one other (inr same) = subst (SameKindEnd lists one) same (SameKindEnd-refl lists one)

-- the side of an end says the same of two contacts whose far ends are of one kind
end-same : (lists : EstateLists) (direction : Direction) (near near' : ModelEnd) (one other : Contact) → SameKindEnd lists near near' → SameContact one other → SameKindEnd lists one.far other.far →
    end_allows lists direction near one ≡ end_allows lists direction near' other
end-same lists direction (pod p) (pod q) one other near same far =
    pods_allow-same lists direction p q one other (select_alike lists p q near.same near.keys) (match_alike lists direction q one other same far.keys far.cidrs)
end-same lists direction (address a) (address b) one other near same far = refl
end-same lists direction (pod p) (address b) one other near same far = absurd near.same
end-same lists direction (address a) (pod q) one other near same far = absurd near.same

-- so does what decides there
deciders-same : (lists : EstateLists) (direction : Direction) (near near' : ModelEnd) (one other : Contact) → SameKindEnd lists near near' → SameContact one other → SameKindEnd lists one.far other.far →
    decider lists direction near one ≡ decider lists direction near' other
deciders-same lists direction (pod p) (pod q) one other near same far =
    pods_decide-same lists direction p q one other (select_alike lists p q near.same near.keys) (match_alike lists direction q one other same far.keys far.cidrs)
deciders-same lists direction (address a) (address b) one other near same far = refl
deciders-same lists direction (pod p) (address b) one other near same far = absurd near.same
deciders-same lists direction (address a) (pod q) one other near same far = absurd near.same

pub packet-same : (lists : EstateLists) (family : Family) (spot : PortSpot) (a a' b b' : ModelEnd) → SameKindEnd lists a a' → SameKindEnd lists b b' →
    allows lists (record { source = a; destination = b; family = family; spot = spot }) ≡ allows lists (record { source = a'; destination = b'; family = family; spot = spot })
unfolding allows
packet-same lists family spot a a' b b' first second =
    let one : ModelPacket = record { source = a; destination = b; family = family; spot = spot } in
    let other : ModelPacket = record { source = a'; destination = b'; family = family; spot = spot } in
    let leaves = end-same lists Egress a a' (contact_of Egress one) (contact_of Egress other) first (record { far = second.same; destination = second.same; family = refl; spot = refl }) second in
    let enters = end-same lists Ingress b b' (contact_of Ingress one) (contact_of Ingress other) second (record { far = first.same; destination = second.same; family = refl; spot = refl }) first in
    ap (λ allowed. allowed && end_allows lists Ingress b (contact_of Ingress one)) leaves
    ∙ ap (λ allowed. end_allows lists Egress a' (contact_of Egress other) && allowed) enters

-- the same rules speak of pods of one kind
pub kind-places : (lists : EstateLists) (direction : Direction) (p q : PodEnd) → SameKindEnd lists (pod p) (pod q) → SamePlaces lists direction p q
kind-places lists direction p q near = same_places lists direction p q (select_alike lists p q near.same near.keys)

-- as many rules speak of ends of one kind
pub end_rule_count-same : (lists : EstateLists) (direction : Direction) (near near' : ModelEnd) → SameKindEnd lists near near' → end_rule_count lists direction near ≡ end_rule_count lists direction near'
end_rule_count-same lists direction (pod p) (pod q) near = let all = kind-places lists direction p q near in rw (all.admin, all.net, all.base) refl
end_rule_count-same lists direction (address a) (address b) near = refl
end_rule_count-same lists direction (pod p) (address b) near = absurd near.same
end_rule_count-same lists direction (address a) (pod q) near = absurd near.same

-- ---- what decides a packet

-- at its source
pub sent-same : (lists : EstateLists) (family : Family) (spot : PortSpot) (a a' b b' : ModelEnd) → SameKindEnd lists a a' → SameKindEnd lists b b' →
    decider lists Egress a (contact_of Egress (record { source = a; destination = b; family = family; spot = spot })) ≡ decider lists Egress a'
    (contact_of Egress (record { source = a'; destination = b'; family = family; spot = spot }))
sent-same lists family spot a a' b b' first second =
    let one : ModelPacket = record { source = a; destination = b; family = family; spot = spot } in
    let other : ModelPacket = record { source = a'; destination = b'; family = family; spot = spot } in
    deciders-same lists Egress a a' (contact_of Egress one) (contact_of Egress other) first (record { far = second.same; destination = second.same; family = refl; spot = refl }) second

-- and at its destination
pub got-same : (lists : EstateLists) (family : Family) (spot : PortSpot) (a a' b b' : ModelEnd) → SameKindEnd lists a a' → SameKindEnd lists b b' →
    decider lists Ingress b (contact_of Ingress (record { source = a; destination = b; family = family; spot = spot })) ≡ decider lists Ingress b'
    (contact_of Ingress (record { source = a'; destination = b'; family = family; spot = spot }))
got-same lists family spot a a' b b' first second =
    let one : ModelPacket = record { source = a; destination = b; family = family; spot = spot } in
    let other : ModelPacket = record { source = a'; destination = b'; family = family; spot = spot } in
    deciders-same lists Ingress b b' (contact_of Ingress one) (contact_of Ingress other) second (record { far = first.same; destination = second.same; family = refl; spot = refl }) first
