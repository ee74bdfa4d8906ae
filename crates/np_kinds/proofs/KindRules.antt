-- Contacts that a rule does not tell apart. For KindSides and KindVerdicts.
use Rattle.std.proofs.Common.{◌≡◌, ℕ, List, ◌&&◌, ap, ◌∙◌}
use Rattle.std.specs.List.{AllByRecursion, flat_map, list_any}
use Rattle.np_base.proofs.Each.{All-weaker}
use Rattle.np_kinds.specs.Prelude.{AdminPeer, AdminPort, NetPeer, NetPort, NetRule, PortSpot}
use Rattle.np_fold.specs.Prelude.{cidrs_of_peer, keys_of_admin_peer, keys_of_net_peer, keys_of_net_rule}
use Rattle.np_rules.proofs.EachItem.{All-both, All-each, All-flat, list_any-same, none_or_any-same}
use Rattle.np_kinds.proofs.KindPeers.{AgreeAt, AgreeIn, SameEnd, admin_entry-same, admin_peer-same, net_entry-same, net_peer-same}
use Rattle.np_model.specs.declared.admin_policy.AdminRule.{AdminRule}
use Rattle.np_rules.specs.Prelude.{Contact, ModelEnd, admin_entry_matches, admin_peer_matches, admin_rule_matches, net_entry_matches, net_peer_matches, net_rule_matches, none_or_any}

-- two contacts of one family, protocol and port, whose ends are the same but for labels and addresses
pub record SameContact (one other : Contact) : Type 0 where
  pub far : SameEnd one.far other.far
  pub destination : SameEnd one.destination other.destination
  pub family : one.family ≡ other.family
  pub spot : one.spot ≡ other.spot

-- ---- rules of NetworkPolicies

net_peers-same : (namespace : List ℕ) (one other : ModelEnd) → SameEnd one other → (peers : List NetPeer) → AllByRecursion (AgreeAt one other) (flat_map keys_of_net_peer peers) →
    AllByRecursion (λ peer. net_peer_matches namespace peer one ≡ net_peer_matches namespace peer other) peers
net_peers-same namespace one other same peers agree =
    All-weaker (λ peer. AllByRecursion (AgreeAt one other) (keys_of_net_peer peer)) (λ peer. net_peer_matches namespace peer one ≡ net_peer_matches namespace peer other)
    (λ peer on. net_peer-same namespace peer one other same on) peers (All-flat (AgreeAt one other) keys_of_net_peer peers agree)

net_ports-same : (one other : ModelEnd) (spot spot' : PortSpot) → SameEnd one other → spot ≡ spot' → (ports : List NetPort) →
    none_or_any (λ entry. net_entry_matches entry one spot) ports ≡ none_or_any (λ entry. net_entry_matches entry other spot') ports
net_ports-same one other spot spot' same is ports =
    none_or_any-same (λ entry. net_entry_matches entry one spot) (λ entry. net_entry_matches entry other spot') ports
    (All-each (λ entry. net_entry_matches entry one spot ≡ net_entry_matches entry other spot') (λ entry. net_entry-same one other spot same entry ∙ ap (net_entry_matches entry other) is) ports)

pub net_rule-same : (namespace : List ℕ) (one other : Contact) → SameContact one other → (rule : NetRule) → AllByRecursion (AgreeAt one.far other.far) (keys_of_net_rule rule) →
    net_rule_matches namespace rule one ≡ net_rule_matches namespace rule other
net_rule-same namespace one other same rule agree =
    let peers = none_or_any-same (λ peer. net_peer_matches namespace peer one.far) (λ peer. net_peer_matches namespace peer other.far) rule.peers
    (net_peers-same namespace one.far other.far same.far rule.peers agree) in
    let ports = net_ports-same one.destination other.destination one.spot other.spot same.destination same.spot rule.ports in
    ap (λ b. b && none_or_any (λ entry. net_entry_matches entry one.destination one.spot) rule.ports) peers
    ∙ ap (λ b. none_or_any (λ peer. net_peer_matches namespace peer other.far) rule.peers && b) ports

-- ---- admin rules

-- the peer matches both contacts, or neither
abbrev pub IsPeerAlike : Contact → Contact → AdminPeer → Type 0
IsPeerAlike one other peer = admin_peer_matches peer one.far one.family ≡ admin_peer_matches peer other.far other.family

pub admin_peers-same : (one other : Contact) → SameContact one other → (peers : List AdminPeer) → AllByRecursion (AgreeAt one.far other.far) (flat_map keys_of_admin_peer peers) →
    AllByRecursion (AgreeIn one.far other.far) (flat_map cidrs_of_peer peers) → AllByRecursion (IsPeerAlike one other) peers
admin_peers-same one other same peers agree within =
    All-weaker (λ peer. AllByRecursion (AgreeAt one.far other.far) (keys_of_admin_peer peer) × AllByRecursion (AgreeIn one.far other.far) (cidrs_of_peer peer)) (IsPeerAlike one other)
    (λ peer on. admin_peer-same peer one.far other.far one.family same.far on.0 on.1 ∙ ap (admin_peer_matches peer other.far) same.family) peers
    (All-both _ _ peers (All-flat (AgreeAt one.far other.far) keys_of_admin_peer peers agree) (All-flat (AgreeIn one.far other.far) cidrs_of_peer peers within))

admin_ports-same : (one other : ModelEnd) (spot spot' : PortSpot) → SameEnd one other → spot ≡ spot' → (ports : List AdminPort) →
    none_or_any (λ entry. admin_entry_matches entry one spot) ports ≡ none_or_any (λ entry. admin_entry_matches entry other spot') ports
admin_ports-same one other spot spot' same is ports =
    none_or_any-same (λ entry. admin_entry_matches entry one spot) (λ entry. admin_entry_matches entry other spot') ports
    (All-each (λ entry. admin_entry_matches entry one spot ≡ admin_entry_matches entry other spot')
    (λ entry. admin_entry-same one other spot same entry ∙ ap (admin_entry_matches entry other) is) ports)

-- the rule matches both contacts, or neither
abbrev pub IsAlikeAt : Contact → Contact → AdminRule → Type 0
IsAlikeAt one other rule = admin_rule_matches rule one ≡ admin_rule_matches rule other

admin_rule-same : (one other : Contact) → SameContact one other → (rule : AdminRule) → AllByRecursion (IsPeerAlike one other) rule.peers → IsAlikeAt one other rule
admin_rule-same one other same rule alike =
    let peers = list_any-same (λ peer. admin_peer_matches peer one.far one.family) (λ peer. admin_peer_matches peer other.far other.family) rule.peers alike in
    let ports = admin_ports-same one.destination other.destination one.spot other.spot same.destination same.spot rule.ports in
    ap (λ b. b && none_or_any (λ entry. admin_entry_matches entry one.destination one.spot) rule.ports) peers
    ∙ ap (λ b. list_any (λ peer. admin_peer_matches peer other.far other.family) rule.peers && b) ports

pub admin_rules-same : (one other : Contact) → SameContact one other → (rules : List AdminRule) → AllByRecursion (IsPeerAlike one other) (flat_map (λ rule. rule.peers) rules) →
    AllByRecursion (IsAlikeAt one other) rules
admin_rules-same one other same rules alike =
    All-weaker (λ rule. AllByRecursion (IsPeerAlike one other) rule.peers) (IsAlikeAt one other) (admin_rule-same one other same) rules
    (All-flat (IsPeerAlike one other) (λ rule. rule.peers) rules alike)
