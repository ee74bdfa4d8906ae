-- The rules of NetworkPolicies that are kept for pods that nobody has written yet, each with a set of what its port entries
-- match.
use Rattle.std.specs.Prelude.{◌≡◌, ℕ, List, Bool, true, ◌&&◌}
use Rattle.std.specs.List.{AllByRecursion, list_any}
use Rattle.np_conns.specs.Prelude.{Conns, has_spot, is_spot}
use Rattle.np_rules.specs.Types.{Direction, NetRule, PortSpot, RuleConns, Stranger}
use Rattle.np_rules.specs.model.Ends.{ModelEnd, destination_of, pod, stranger_end}
use Rattle.np_rules.specs.model.NetTier.{permits}
use Rattle.np_rules.specs.model.Peers.{net_peer_matches}
use Rattle.np_rules.specs.PodSides.{PodSide, near_pod, with_stranger}
use Rattle.np_rules.specs.model.PortEntries.{net_entry_matches}
use Rattle.np_rules.specs.model.Rules.{none_or_any}

abbrev pub rule_of : RuleConns → NetRule
rule_of kept = kept.rule.now

-- Whichever stranger is the far end, the set has exactly the spots that some port entry of the rule matches.
abbrev pub HasPorts : Direction → ModelEnd → RuleConns → Type 0
HasPorts direction near kept = (s : Stranger) (spot : PortSpot) → is_spot spot ≡ true →
    has_spot kept.conns spot ≡ none_or_any (λ entry. net_entry_matches entry (destination_of direction near (pod (stranger_end s))) spot) (rule_of kept).ports

-- the same of all the kept rules, at the pod of a side
abbrev pub HavePorts : PodSide → List RuleConns → Type 0
HavePorts side kept = AllByRecursion (HasPorts side.direction (pod (near_pod side))) kept

-- whether the peers of a rule of this namespace match the far end
abbrev pub kept_reaches : List ℕ → ModelEnd → RuleConns → Bool
kept_reaches namespace far kept = none_or_any (λ peer. net_peer_matches namespace peer far) (rule_of kept).peers

-- whether such a rule matches the far end, and its set has the spot
abbrev pub kept_matches : List ℕ → ModelEnd → PortSpot → RuleConns → Bool
kept_matches namespace far spot kept = kept_reaches namespace far kept && has_spot kept.conns spot

-- ---- what NetworkPolicies permit a stranger

-- whether some rule of a NetworkPolicy that selects the pod matches the stranger, at a spot
abbrev pub permits_stranger : PodSide → Stranger → PortSpot → Bool
permits_stranger side s spot = permits side.lists.net_policies side.direction (near_pod side) (with_stranger s side spot)

-- Whichever stranger is the far end, some of the kept rules matches it at a spot where NetworkPolicies permit that.
abbrev pub IsNetOf : PodSide → List RuleConns → Type 0
IsNetOf side kept = (s : Stranger) (spot : PortSpot) → is_spot spot ≡ true →
    list_any (kept_matches (near_pod side).namespace (pod (stranger_end s)) spot) kept ≡ permits_stranger side s spot

-- the set has exactly the spots that NetworkPolicies permit the stranger
abbrev pub ArePermitted : PodSide → Stranger → Conns → Type 0
ArePermitted side s conns = (spot : PortSpot) → is_spot spot ≡ true → has_spot conns spot ≡ permits_stranger side s spot
