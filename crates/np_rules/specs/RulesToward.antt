-- Rules whose peers match an end.
use Rattle.std.specs.Prelude.{ℕ, List, Bool}
use Rattle.std.specs.List.{list_any}
use Rattle.np_rules.specs.Types.{AdminRule, Family, NetRule}
use Rattle.np_rules.specs.model.Ends.{ModelEnd}
use Rattle.np_rules.specs.model.Peers.{admin_peer_matches, net_peer_matches}
use Rattle.np_rules.specs.model.Rules.{none_or_any}

abbrev pub admin_rule_reaches : ModelEnd → Family → AdminRule → Bool
admin_rule_reaches far family rule = list_any (λ peer. admin_peer_matches peer far family) rule.peers

-- without peers a rule matches every end
abbrev pub net_rule_reaches : List ℕ → ModelEnd → NetRule → Bool
net_rule_reaches namespace far rule = none_or_any (λ peer. net_peer_matches namespace peer far) rule.peers
