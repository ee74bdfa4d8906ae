-- What a rule matches.
use Rattle.std.specs.Prelude.{ℕ, List, [], ◌∷◌, Bool, true, ◌&&◌}
use Rattle.std.specs.List.{list_any}
use Rattle.np_rules.specs.Types.{AdminRule, NetRule}
use Rattle.np_rules.specs.model.Ends.{Contact}
use Rattle.np_rules.specs.model.Peers.{net_peer_matches, admin_peer_matches}
use Rattle.np_rules.specs.model.PortEntries.{net_entry_matches, admin_entry_matches}

-- whether some item passes, where no items at all do not restrict
abbrev pub none_or_any : {X : Type 0} → (X → Bool) → List X → Bool
none_or_any passes [] = true
none_or_any passes (item ∷ items) = list_any passes (item ∷ items)

-- A rule of a NetworkPolicy of this namespace: some peer matches the far end, and some port entry matches the
-- destination and the spot. Without peers it matches every far end, and without port entries every spot.
abbrev pub net_rule_matches : List ℕ → NetRule → Contact → Bool
net_rule_matches namespace rule contact = none_or_any (λ peer. net_peer_matches namespace peer contact.far) rule.peers
    && none_or_any (λ entry. net_entry_matches entry contact.destination contact.spot) rule.ports

-- An admin rule: the same, but without peers it matches nothing.
abbrev pub admin_rule_matches : AdminRule → Contact → Bool
admin_rule_matches rule contact = list_any (λ peer. admin_peer_matches peer contact.far contact.family) rule.peers
    && none_or_any (λ entry. admin_entry_matches entry contact.destination contact.spot) rule.ports
