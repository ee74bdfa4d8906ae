-- Without networks a family changes nothing. For `networks_alone_tell_families`.
use Rattle.std.proofs.Common.{◌≡◌, List, [], ◌∷◌, true, false, ◌&&◌, ◌||◌, flat_map, refl, sym, ap, ◌∙◌, if◌then◌else◌}
use Rattle.std.specs.List.{AllByRecursion, list_any}
use Rattle.std.proofs.lemmas.Bool.{or_parts}
use Rattle.std.proofs.lemmas.List.Folds.{list_any-append}
use Rattle.np_base.proofs.Each.{All-parts, All-weaker}
use Rattle.np_rules.specs.Prelude.{AdminPeer, AdminRule, Contact, Direction, Egress, EstateLists, Family, Ingress, ModelEnd, ModelPacket, PodEnd, address, admin_decider, admin_entry_matches, admin_peer_matches, admin_places, admin_precedes, admin_rule_matches, admin_says, allows, base_decider, base_places, base_says, contact_of, end_allows, has_networks, is_isolated, least_by, none_or_any, permits, pod, side_allows}
use Rattle.np_model.specs.declared.admin_policy.AdminPeer.TheVariants.{Pods, Networks}
use Rattle.np_model.specs.Prelude.{admin_rules, is_networks}
use Rattle.np_rules.proofs.EachItem.{filter-same, find-same}
use Rattle.np_rules.proofs.PlacedRules.{admin_places-all, base_places-all}

-- ---- peers and rules

peer_other : (peer : AdminPeer) (far : ModelEnd) (one other : Family) → is_networks peer ≡ false → admin_peer_matches peer far one ≡ admin_peer_matches peer far other
peer_other (Pods namespaces pods) (pod p) one other plain = refl
peer_other (Pods namespaces pods) (address a) one other plain = refl
peer_other (Networks cidrs) far one other plain = absurd (impossible plain)
  where
    impossible : true ≡ false → ⊥
    impossible same = cc

peers_other : (peers : List AdminPeer) (far : ModelEnd) (one other : Family) → list_any is_networks peers ≡ false →
    list_any (λ peer. admin_peer_matches peer far one) peers ≡ list_any (λ peer. admin_peer_matches peer far other) peers
peers_other [] far one other plain = refl
peers_other (peer ∷ peers) far one other plain =
    let parts = or_parts (is_networks peer) (list_any is_networks peers) plain in
    ap (λ b. b || list_any (λ q. admin_peer_matches q far one) peers) (peer_other peer far one other parts.0)
    ∙ ap (λ b. admin_peer_matches peer far other || b) (peers_other peers far one other parts.1)

-- the rule lists no networks
abbrev IsPlain : AdminRule → Type 0
IsPlain rule = list_any is_networks rule.peers ≡ false

rule_other : (rule : AdminRule) (contact : Contact) (other : Family) → IsPlain rule → admin_rule_matches rule (record contact { family = other }) ≡ admin_rule_matches rule contact
rule_other rule contact other plain = ap (λ b. b && none_or_any (λ entry. admin_entry_matches entry contact.destination contact.spot) rule.ports)
    (peers_other rule.peers contact.far other contact.family plain)

rules_plain : (rules : List AdminRule) → list_any is_networks (flat_map (λ rule. rule.peers) rules) ≡ false → AllByRecursion IsPlain rules
rules_plain [] plain = tt
rules_plain (rule ∷ rules) plain =
    let parts = or_parts (list_any is_networks rule.peers) _ (sym (list_any-append is_networks rule.peers _) ∙ plain) in
    (parts.0, rules_plain rules parts.1)

-- ---- what decides

side_other : (lists : EstateLists) (direction : Direction) (p : PodEnd) (contact : Contact) (other : Family) → has_networks lists ≡ false →
    side_allows lists direction p (record contact { family = other }) ≡ side_allows lists direction p contact
unfolding side_allows
side_other lists direction p contact other plain =
    let parts = All-parts IsPlain _ _ (rules_plain (admin_rules lists.admin_policies lists.baseline) plain) in
    let contact' : Contact = record contact { family = other } in
    let admin : admin_decider lists.admin_policies direction p contact' ≡ admin_decider lists.admin_policies direction p contact = ap (least_by admin_precedes)
    (filter-same (λ placed. admin_rule_matches placed.rule contact') (λ placed. admin_rule_matches placed.rule contact) (admin_places lists.admin_policies direction p)
    (All-weaker (λ placed. IsPlain placed.rule) (λ placed. admin_rule_matches placed.rule contact' ≡ admin_rule_matches placed.rule contact) (λ placed is. rule_other placed.rule contact other is)
    (admin_places lists.admin_policies direction p) (admin_places-all IsPlain direction p lists.admin_policies parts.0))) in
    let base : base_decider lists.baseline direction p contact' ≡ base_decider lists.baseline direction p contact = find-same (λ placed. admin_rule_matches placed.rule contact')
    (λ placed. admin_rule_matches placed.rule contact) (base_places lists.baseline direction p)
    (All-weaker (λ placed. IsPlain placed.rule) (λ placed. admin_rule_matches placed.rule contact' ≡ admin_rule_matches placed.rule contact) (λ placed is. rule_other placed.rule contact other is)
    (base_places lists.baseline direction p) (base_places-all IsPlain direction p lists.baseline parts.1)) in
    ap (λ decides. admin_says decides (if is_isolated lists.net_policies direction p then permits lists.net_policies direction p contact else base_says
    (base_decider lists.baseline direction p contact'))) admin
    ∙ ap (λ decides. admin_says (admin_decider lists.admin_policies direction p contact)
    (if is_isolated lists.net_policies direction p then permits lists.net_policies direction p contact else base_says decides)) base

end_other : (lists : EstateLists) (direction : Direction) (end : ModelEnd) (contact : Contact) (other : Family) → has_networks lists ≡ false →
    end_allows lists direction end (record contact { family = other }) ≡ end_allows lists direction end contact
end_other lists direction (pod p) contact other plain = side_other lists direction p contact other plain
end_other lists direction (address a) contact other plain = refl

pub family_other : (lists : EstateLists) (packet : ModelPacket) (other : Family) → has_networks lists ≡ false → allows lists (record packet { family = other }) ≡ allows lists packet
unfolding allows
family_other lists packet other plain =
    ap (λ b. b && end_allows lists Ingress packet.destination (record (contact_of Ingress packet) { family = other })) (end_other lists Egress packet.source (contact_of Egress packet) other plain)
    ∙ ap (λ b. end_allows lists Egress packet.source (contact_of Egress packet) && b) (end_other lists Ingress packet.destination (contact_of Ingress packet) other plain)
